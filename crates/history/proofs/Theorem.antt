-- Every list of calls from an accepted opening: the run follows the ledger, and what the ledger's records pay is what it owes.
use mathlib.Core.Path.{◌≡◌, refl, sym, ap, ◌∙◌, subst₂}
use mathlib.Core.Logic.{◌≢◌}
use mathlib.Core.Bool.{Bool, true}
use mathlib.Core.List.{List, [], ◌∷◌, ◌++◌}
use Prim.Native.Nat.{ℕ, zero, suc, ◌+◌, ◌*◌, ◌≤◌, ◌<◌}
use native.Mathlib.Nat.{zero-add}
use native.Mathlib.Omega.{arith}
use lib.ListN.{length, get_or, replicate, length-replicate, get_or-replicate}
use Rattle.lists.specs.Sums.{sum, sum_append}
use Rattle.std.proofs.Common.{Option}
use Rattle.records.specs.declared.Claim.{Claim}
use Rattle.records.specs.MessageRecords.{transfer_of}
use Rattle.securities.specs.Securities.{good_tables}
use Rattle.securities.specs.declared.Row.{Row}
use Rattle.securities.proofs.Sound.{sound_rows}
use Rattle.claims.specs.Amounts.{Part}
use Rattle.claims.specs.declared.Parties.{Parties}
use Rattle.claims.specs.Fails.{contract_tag, transfer_parties}
use Rattle.claims.specs.Close.{crossed, close_claims}
use Rattle.claims.specs.Written.{AllFit, readings, AllRead}
use Rattle.claims.proofs.Crossed.{balance_word, rising_crossed}
use Rattle.claims.proofs.Dues.{rising_dues}
use Rattle.claims.proofs.TableRows.{rising_numbers}
use Rattle.claims.proofs.Written.{readings_written, all_read, all_read_append, length_written, behind_written}
use Rattle.claims.proofs.Sizes.{fit_transfer, fit_close}
use Rattle.book.specs.declared.Book.{Book}
use Rattle.book.specs.declared.Position.{Position}
use Rattle.book.specs.Book.{InRange, balance_at, layout, word}
use Rattle.book.proofs.Words.{length_layout, read, is_layout, word_bound}
use Rattle.book.proofs.Judged.{kept}
use Rattle.history.specs.Calls.{Call, transfer, close, buffer_of, claims_of}
use Rattle.history.specs.Causes.{number_for, opening_number}
use Rattle.history.specs.Results.{Run, run, opened_for, opened, run_from}
use Rattle.history.specs.Ledger.{Entry, Ledger, started, transfers, increases, decreases, par_lent, book_of, balances_of, keep, number_on, answer_for, judged}
use Rattle.history.specs.Owed.{amounts, lent_by, owed_by, owed}
use Rattle.history.specs.Statement.{records_in, paid_in, paid, of_type_and_row, of_row, of_all, AsFound, AllAsFound, AgreesWithLedger, EveryHistory}
use Rattle.history.proofs.Accepted.{accepted_iff, begun, taken, closed}
use Rattle.history.proofs.Simulation.{Covered, Inside, inside_step, Follows, follows}
use Rattle.history.proofs.Payments.{AreAccounts, accounts, pays, paid_claims, pays_transfer, pays_close, pays_outside, amounts_zero, loan}
use Rattle.history.proofs.Once.{passed, passed_started}

module _ (calendar tables : List ℕ) where
  -- ---- the claims of an accepted call fit their records

  pub fit_claims : (book : Book) (balances : List ℕ) (call : Call) → number_for calendar tables book balances call ≡ 0
      → AllFit (claims_of calendar tables book balances call)
  unfolding claims_of transfer_parties balance_at word
  fit_claims book balances (transfer a) e =
      let k = taken calendar tables book balances a e in
      let t = transfer_of a.message in
      let f = k.fields in
      let s = k.sound.tables_sound in
      fit_transfer calendar tables (kept s) a.limits book.day (book.count + 1) t (contract_tag book.day a.message) (omega (arith, k.count))
      (record { security = f.security; payee = f.receiver; payer = f.sender }) (omega (arith, f.par))
      (sound_rows calendar tables t.security s.table_rules f.security)
  fit_claims book balances (close a) e =
      let k = closed calendar tables book balances a e in
      let s = k.sound.tables_sound in
      fit_close calendar tables (kept s) book.day balances
      (λ h i l b hh hi hl hb. rw (balance_word balances h i l b hl hb)
      (k.sound.balances_sound.small _ (record { tracking = hh; security = hi; lender = hl; borrower = hb })))
      (λ i h. sound_rows calendar tables i s.table_rules h)

  -- ---- the counted records of every answer read

  read_step : (t : Ledger) (call : Call) (n : ℕ) → number_for calendar tables (book_of t) (balances_of t) call ≡ n
      → AllRead (readings (answer_for n calendar tables t call).claims (answer_for n calendar tables t call).buffer)
  unfolding answer_for
  read_step t call zero e =
      let claims = claims_of calendar tables (book_of t) (balances_of t) call in
      rw (readings_written claims (buffer_of call) (fit_claims (book_of t) (balances_of t) call e)) (all_read claims)
  read_step t call (suc n) e = unfold readings in tt

  pub read_all : (calls : List Call) (t : Ledger) → AllRead (records_in (judged calendar tables t calls).answers)
  unfolding judged records_in number_on
  read_all [] t = tt
  read_all (call ∷ calls) t =
      let n = number_for calendar tables (book_of t) (balances_of t) call in
      all_read_append (readings (answer_for n calendar tables t call).claims (answer_for n calendar tables t call).buffer) _
      (read_step t call n refl) (read_all calls (keep n calendar t call))

  -- ---- every claim buffer is kept behind the counted records

  fits : (book : Book) (balances : List ℕ) (call : Call) → number_for calendar tables book balances call ≡ 0
      → 35 * length (claims_of calendar tables book balances call) ≤ length (buffer_of call)
  unfolding buffer_of
  fits book balances (transfer a) e = (taken calendar tables book balances a e).fits
  fits book balances (close a) e = (closed calendar tables book balances a e).fits

  found_step : (t : Ledger) (call : Call) (n : ℕ) → number_for calendar tables (book_of t) (balances_of t) call ≡ n
      → AsFound call (answer_for n calendar tables t call)
  unfolding answer_for
  found_step t call zero e =
      let claims = claims_of calendar tables (book_of t) (balances_of t) call in
      record {
        size = length_written claims (buffer_of call) (fits (book_of t) (balances_of t) call e);
        behind = behind_written claims (buffer_of call);
      }
  found_step t call (suc n) e = record { size = refl; behind = refl }

  pub found_all : (calls : List Call) (t : Ledger) → AllAsFound calls (judged calendar tables t calls).answers
  unfolding judged number_on
  found_all [] t = tt
  found_all (call ∷ calls) t =
      let n = number_for calendar tables (book_of t) (balances_of t) call in
      (found_step t call n refl, found_all calls (keep n calendar t call))

  -- ---- the records pay what the history owes

  module _ (part : Part) (claim_test : ℕ → ℕ → Bool) (x : Parties) where
    loan_range : (tracking : ℕ) → tracking < 2 → AreAccounts x → InRange (loan tracking x)
    unfolding loan
    loan_range tracking h k = record { tracking = h; security = k.security; lender = k.payee; borrower = k.payer }

    -- who is no account of the book was lent nothing
    nothing_lent : (tracking : ℕ) (es : List Entry) → Inside es → ¬ AreAccounts x → lent_by tracking es x ≡ 0
    unfolding lent_by par_lent
    nothing_lent tracking es h d = go (increases es (record { tracking = tracking; security = x.security; lender = x.payee; borrower = x.payer })) refl
      where
        go : (n : ℕ) → increases es (record { tracking = tracking; security = x.security; lender = x.payee; borrower = x.payer }) ≡ n
            → lent_by tracking es x ≡ 0
        go zero e = omega arith
        go (suc n) e =
            let k = h (record { tracking = tracking; security = x.security; lender = x.payee; borrower = x.payer }) (omega arith) in
            absurd (d (record { security = k.security; payee = k.lender; payer = k.borrower }))

    -- the claims of a call pay what it adds
    pays_call : (t : Ledger) (call : Call) → Inside t.entries
        → pays calendar tables part claim_test x (claims_of calendar tables (book_of t) (balances_of t) call)
        ≡ owed_by calendar tables part claim_test t.entries t.day call x
    unfolding claims_of owed_by book_of balances_of
    pays_call t (transfer a) h = pays_transfer calendar tables part claim_test x a.limits t.day _ a.message
    pays_call t (close a) h = go (accounts x)
      where
        rows : List Row
        rows = crossed calendar tables t.day x.security

        go : Dec (AreAccounts x) → pays calendar tables part claim_test x (close_claims calendar tables t.day (layout (par_lent t.entries)))
            ≡ amounts part (claim_test 3) (lent_by 0 t.entries x) rows + amounts part (claim_test 4) (lent_by 1 t.entries x) rows
        go (yes r) =
            pays_close calendar tables part claim_test x t.day (layout (par_lent t.entries)) r
            ∙ (unfold lent_by loan in rw (read (par_lent t.entries) (loan 0 x) (loan_range 0 (omega arith) r), read (par_lent t.entries) (loan 1 x) (loan_range 1 (omega arith) r)))
        go (no d) =
            pays_outside calendar tables part claim_test x t.day (layout (par_lent t.entries)) d
            ∙ sym (rw (nothing_lent 0 t.entries h d, nothing_lent 1 t.entries h d, amounts_zero part (claim_test 3) rows, amounts_zero part (claim_test 4) rows))

    -- so do the records of its answer; a refused call writes none and is not kept
    paid_step : (t : Ledger) (call : Call) (n : ℕ) → Inside t.entries → number_for calendar tables (book_of t) (balances_of t) call ≡ n
        → (let a = answer_for n calendar tables t call in
        paid part claim_test (readings a.claims a.buffer) x + owed calendar tables part claim_test t.entries x)
        ≡ owed calendar tables part claim_test (keep n calendar t call).entries x
    unfolding answer_for keep owed
    paid_step t call zero h e =
        rw (
          readings_written (claims_of calendar tables (book_of t) (balances_of t) call) (buffer_of call) (fit_claims (book_of t) (balances_of t) call e),
          paid_claims calendar tables part claim_test x (claims_of calendar tables (book_of t) (balances_of t) call),
          pays_call t call h,
        )
    paid_step t call (suc n) h e = unfold readings paid sum in zero-add _

    paid_append : (rs ss : List (Option Claim)) → paid part claim_test (rs ++ ss) x ≡ paid part claim_test rs x + paid part claim_test ss x
    unfolding paid
    paid_append rs ss = sum_append (paid_in part claim_test x) rs ss

    pub paid_all : (calls : List Call) (t : Ledger) → Inside t.entries
        → paid part claim_test (records_in (judged calendar tables t calls).answers) x + owed calendar tables part claim_test t.entries x
        ≡ owed calendar tables part claim_test (judged calendar tables t calls).ledger.entries x
    unfolding judged records_in number_on
    paid_all [] t h = unfold paid sum in zero-add _
    paid_all (call ∷ calls) t h =
        let n = number_for calendar tables (book_of t) (balances_of t) call in
        let a = answer_for n calendar tables t call in
        let next = keep n calendar t call in
        omega (
          arith,
          paid_append (readings a.claims a.buffer) (records_in (judged calendar tables next calls).answers),
          paid_step t call n h refl,
          paid_all calls next (inside_step calendar tables t call n h (λ z. z)),
        )

  nothing_owed : (part : Part) (claim_test : ℕ → ℕ → Bool) (day : ℕ) (x : Parties) (n : ℕ)
      → n + owed calendar tables part claim_test (started day).entries x ≡ n
  unfolding started owed
  nothing_owed part claim_test day x n = omega arith

  pub started_inside : (day : ℕ) → Inside (started day).entries
  unfolding started increases sum
  started_inside day p k = absurd (omega arith)

  paid_from : (part : Part) (claim_test : ℕ → ℕ → Bool) (x : Parties) (day : ℕ) (calls : List Call)
      → paid part claim_test (records_in (judged calendar tables (started day) calls).answers) x
      ≡ owed calendar tables part claim_test (judged calendar tables (started day) calls).ledger.entries x
  paid_from part claim_test x day calls =
      sym (nothing_owed part claim_test day x _) ∙ paid_all part claim_test x calls (started day) (started_inside day)

  -- ---- from the opening on

  pub started_book : (day : ℕ) → record { day = day; count = 0 } ≡ book_of (started day)
  unfolding book_of started transfers sum
  started_book day = refl

  pub started_balances : (day : ℕ) → replicate 8192 0 ≡ balances_of (started day)
  unfolding balances_of started
  started_balances day =
      is_layout (par_lent []) (replicate 8192 0) (length-replicate {A = ℕ} 8192 0)
      (λ p r. unfold balance_at par_lent increases decreases sum in get_or-replicate 8192 (word p) 0 0 (word_bound p r))

  pub started_covered : (day : ℕ) → Covered (started day).entries
  unfolding started increases decreases sum
  started_covered day p = omega arith

  not_kept : (n : ℕ) (t : Ledger) (call : Call) → n ≢ 0 → keep n calendar t call ≡ t
  unfolding keep
  not_kept zero t call d = absurd (d refl)
  not_kept (suc n) t call d = refl

  -- the word of a position holds its par
  pub stored_lent : (balances : List ℕ) (es : List Entry) (p : Position) → InRange p → balances ≡ layout (par_lent es) → decreases es p ≤ increases es p
      → get_or balances (4096 * p.tracking + 256 * p.security + 16 * p.lender + p.borrower) 0 + decreases es p
      ≡ increases es p
  unfolding par_lent
  stored_lent balances es p k e h =
      let w : get_or balances (4096 * p.tracking + 256 * p.security + 16 * p.lender + p.borrower) 0 ≡ par_lent es p =
      ap (λ (l : List ℕ). get_or l (4096 * p.tracking + 256 * p.security + 16 * p.lender + p.borrower) 0) e ∙ (unfold balance_at word in read (par_lent es) p k) in
      omega arith

  followed : good_tables calendar tables ≡ true → (day : ℕ) (calls : List Call) (r : Run) → Follows calendar tables r (judged calendar tables (started day) calls)
      → AgreesWithLedger calendar tables day calls r (judged calendar tables (started day) calls)
  unfolding book_of balances_of par_lent number_on
  followed sound day calls r f =
      let t = (judged calendar tables (started day) calls).ledger in
      record {
        answers = f.answers;
        buffers = rw f.answers (found_all calls (started day));
        day = ap (λ (b : Book). b.day) f.book;
        count = ap (λ (b : Book). b.count) f.book;
        balances = f.balances;
        words = ap length f.balances ∙ length_layout (par_lent t.entries);
        lent = λ p k. stored_lent r.balances t.entries p k f.balances (f.covered p);
        lent_before = f.before;
        readable = rw f.answers (read_all calls (started day));
        type_payments = λ part x claim_type row. rw f.answers (paid_from part (of_type_and_row claim_type row) x day calls);
        row_payments = λ part x row. rw f.answers (paid_from part (of_row row) x day calls);
        payments = λ part x. rw f.answers (paid_from part of_all x day calls);
        crossed_once = λ row. (passed calendar tables day row calls (started day) (passed_started calendar tables day row)).crossed_once;
        dates_once = λ limits d tag h.
            let b = (sound_rows calendar tables d.security sound h).beneficiaries in
            rising_dues tables limits t.day d tag (λ row. row.beneficiary_date) b b;
        row_order = λ limits d tag h.
            rising_dues tables limits t.day d tag (λ row. row.index) (sound_rows calendar tables d.security sound h).beneficiaries
            (rising_numbers tables d.security);
        rows_once = λ s h. rising_crossed calendar tables t.day s (sound_rows calendar tables s sound h).records;
        accepted = λ call. accepted_iff calendar tables (book_of t) (balances_of t) call;
        refused = λ call d. not_kept _ t call d;
      }

  opened_run : (balances : List ℕ) (day n : ℕ) → opening_number calendar tables balances day ≡ n
      → (opened_for n balances day).number ≡ 0 → (calls : List Call)
      → AgreesWithLedger calendar tables day calls (run_from calendar tables (opened_for n balances day) calls) (judged calendar tables (started day) calls)
  unfolding opened_for run_from
  opened_run balances day zero e z calls =
      let b = (begun calendar tables balances day e).tables_sound in
      followed b.table_rules day calls _ (rw b.balance_words_lem
      (subst₂ (λ (b : Book) (l : List ℕ). Follows calendar tables (run calendar tables b l calls) (judged calendar tables (started day) calls))
      (sym (started_book day)) (sym (started_balances day)) (follows calendar tables calls (started day) (started_covered day) (unfold started in tt))))
  opened_run balances day (suc n) e z calls = absurd (omega arith)

pub every_history : EveryHistory
unfolding opened
every_history calendar tables balances day e calls = opened_run calendar tables balances day (opening_number calendar tables balances day) refl e calls
