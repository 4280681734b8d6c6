-- Lending and repo never change each other: the word that an accepted transfer writes is one of its code's own tracking.
use mathlib.Core.Path.{◌≡◌, refl, sym, ◌∙◌}
use mathlib.Core.Logic.{◌≢◌}
use mathlib.Core.Bool.{Bool, true, false, cond, true≢false}
use mathlib.Core.List.{List, [], ◌∷◌}
use Prim.Native.Nat.{ℕ, zero, suc, ◌+◌, ◌*◌, ◌≤◌, ◌<◌}
use native.Mathlib.Omega.{arith}
use lib.ListN.{get_or}
use lib.Seq.{get_or-set_other}
use Rattle.records.specs.declared.Transfer.{Transfer}
use Rattle.records.specs.MessageRecords.{transfer_of}
use Rattle.book.specs.Book.{word}
use Rattle.book.specs.declared.Change.TheVariants.{Unchanged as unchanged, Increase as increase, Decrease as decrease}
use Rattle.book.specs.Loans.{tracking_of, step_of, increasing, decreasing, by_sender, by_receiver, change_of, changed}
use Rattle.history.specs.Calls.{Call, transfer, close}
use Rattle.history.specs.Causes.{number_for}
use Rattle.history.specs.Results.{next_balances, result_with, result_for, result, run_by}
use Rattle.history.specs.Apart.{OfTracking, NotOf, EveryCallApart, EveryListApart}
use Rattle.history.proofs.Accepted.{Fields, taken}
use Rattle.history.proofs.Balances.{code_parts, step_bound}

-- a code that changes a balance has a place above 0
increasing_above : (n : ℕ) → increasing n ≡ true → 0 < n
unfolding increasing
increasing_above zero e = absurd (true≢false (sym e))
increasing_above (suc n) e = omega arith

decreasing_above : (n : ℕ) → decreasing n ≡ true → 0 < n
unfolding decreasing
decreasing_above zero e = absurd (true≢false (sym e))
decreasing_above (suc n) e = omega arith

-- so it is a code of its own tracking
own_tracking : (code : ℕ) → code ≤ 12 → 0 < step_of code → OfTracking (tracking_of code) code
own_tracking code h k = record { above = omega (arith, code_parts code); up_to = omega (arith, code_parts code, step_bound code h) }

-- a position's word lies in the words of its tracking
word_tracking : (tracking s l b : ℕ) → s < 16 → l < 16 → b < 16 → (w : ℕ) → w ≡ 4096 * tracking + 256 * s + 16 * l + b → (k : ℕ)
    → 4096 * k ≤ w → w < 4096 * k + 4096 → k ≡ tracking
word_tracking tracking s l b hs hl hb w e k a u = omega arith

module _ (t : Transfer) (f : Fields t) (k w : ℕ) (d : ¬ OfTracking k t.code) (a : 4096 * k ≤ w) (u : w < 4096 * k + 4096) where
  -- with a code of another tracking, the word of a position in it is another
  not_own : 0 < step_of t.code → k ≢ tracking_of t.code
  not_own h e = d (rw e (own_tracking t.code f.code h))

  other_word : 0 < step_of t.code → (l b : ℕ) → l < 16 → b < 16
      → w ≢ word (record { tracking = tracking_of t.code; security = t.security; lender = l; borrower = b })
  unfolding word
  other_word h l b hl hb e = not_own h (word_tracking (tracking_of t.code) t.security l b f.security hl hb w e k a u)

  elsewhere : (balances : List ℕ) → get_or (changed balances (change_of t) t.par) w 0 ≡ get_or balances w 0
  unfolding change_of changed by_sender by_receiver
  elsewhere balances = go (increasing (step_of t.code)) (decreasing (step_of t.code)) refl refl
    where
      go : (x y : Bool) → increasing (step_of t.code) ≡ x → decreasing (step_of t.code) ≡ y
          → get_or (changed balances (cond x (increase (by_sender t)) (cond y (decrease (by_receiver t)) unchanged)) t.par) w 0 ≡ get_or balances w 0
      go true y e g = get_or-set_other balances _ w _ 0 (other_word (increasing_above _ e) t.sender t.receiver f.sender f.receiver)
      go false true e g = get_or-set_other balances _ w _ 0 (other_word (decreasing_above _ g) t.receiver t.sender f.receiver f.sender)
      go false false e g = refl

pub every_call_apart : EveryCallApart
unfolding result result_with next_balances
every_call_apart calendar tables book balances k call d w a u = go call (number_for calendar tables book balances call) refl d
  where
    go : (c : Call) (n : ℕ) → number_for calendar tables book balances c ≡ n → NotOf k c
        → get_or (result_for n calendar tables book balances c).balances w 0 ≡ get_or balances w 0
    go (transfer m) zero e d = elsewhere (transfer_of m.message) (taken calendar tables book balances m e).fields k w d a u balances
    go (close m) zero e d = refl
    go c (suc n) e d = refl

pub every_list_apart : EveryListApart
unfolding run_by
every_list_apart calendar tables book balances k [] d w a u = refl
every_list_apart calendar tables book balances k (call ∷ calls) d w a u =
    let now = result calendar tables book balances call in
    every_list_apart calendar tables now.answer.book now.balances k calls d.1 w a u ∙ every_call_apart calendar tables book balances k call d.0 w a u
