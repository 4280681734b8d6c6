-- Computed rows of forecasts: numbers and figures, and the doubles of some.
use mathlib.Core.Path.{◌≡◌, refl}
use mathlib.Core.Bool.{Bool, true, false, not, ◌&&◌}
use mathlib.Core.List.{List, [], ◌∷◌, ◌++◌}
use Prim.Native.Nat.{ℕ}
use lib.Dec.{eqb}
use lib.ListN.{take}
use lib.IntN.{ℤ, pos, negsuc}
use lib.Ieee.{Float, nan, inf, fin}
use Rattle.lists.specs.All.{all}
use Rattle.records.specs.declared.Claim.{Claim}
use Rattle.claims.specs.Written.{bytes_of_all}
use Rattle.cash.specs.Cash.{forecast_number, figures, forecast_of}
use Rattle.cash.proofs.Opened.{opened_cash}

-- ---- claims

-- A claim of a type, an outcome and a release date.
made : ℕ → ℕ → ℕ → ℕ → ℕ → ℕ → ℕ → Claim
made claim_type outcome payer payee interest principal release =
    record {
      claim_type = claim_type;
      outcome = outcome;
      payer = payer;
      payee = payee;
      security = 0;
      row = 0;
      transfer = 1;
      interest = record { 0 = interest };
      principal = record { 0 = principal };
      release = release;
      slot = 3;
    }

-- A claim that settles on 20230417.
due : ℕ → ℕ → ℕ → ℕ → Claim
due payer payee interest principal = made 1 0 payer payee interest principal 20230417

-- ---- rows

record Row : Type 0 where
  run : List ℕ
  account : ℕ
  date : ℕ
  number : ℕ
  pay : ℕ
  receive : ℕ
  difference : ℤ

same_whole : ℤ → ℤ → Bool
same_whole (pos m) (pos n) = eqb m n
same_whole (negsuc m) (negsuc n) = eqb m n
same_whole (pos m) (negsuc n) = false
same_whole (negsuc m) (pos n) = false

holds : Row → Bool
holds r =
    let f = figures r.run r.account r.date in
    eqb (forecast_number r.run r.account r.date) r.number && eqb f.pay r.pay && eqb f.receive r.receive
    && same_whole f.difference r.difference

-- An accepted row.
gives : List Claim → ℕ → ℕ → ℕ → ℕ → ℤ → Row
gives claims account date pay receive difference =
    record { run = bytes_of_all claims; account = account; date = date; number = 0; pay = pay; receive = receive; difference = difference }

-- A refused row.
refuses : List ℕ → ℕ → ℕ → ℕ → Row
refuses run account date number =
    record { run = run; account = account; date = date; number = number; pay = 0; receive = 0; difference = pos 0 }

-- 1 pays 2 100,005 cents and receives 40,000 from it
both : List Claim
both = due 1 2 100000 5 ∷ due 2 1 40000 0 ∷ []

-- ---- what counts

counted : List Row
counted =
    gives both 1 20230417 100005 40000 (negsuc 60004)
    ∷ gives both 2 20230417 40000 100005 (pos 60005)
    ∷ gives both 3 20230417 0 0 (pos 0)
    ∷ gives both 1 20230418 0 0 (pos 0)
    ∷ gives [] 1 20230415 0 0 (pos 0)
    ∷ gives (due 1 2 10 0 ∷ due 2 1 10 0 ∷ []) 1 20230417 10 10 (pos 0)
    ∷ gives (due 15 0 5 0 ∷ []) 15 20230417 5 0 (negsuc 4)
    ∷ gives (made 1 1 1 2 7 0 20230417 ∷ []) 1 20230417 0 0 (pos 0)
    ∷ gives (made 3 2 1 2 7 0 20230417 ∷ []) 1 20230417 0 0 (pos 0)
    ∷ gives (made 1 3 1 2 7 0 20230417 ∷ []) 1 20230417 0 0 (pos 0)
    ∷ gives (made 200 0 1 2 7 0 20230415 ∷ []) 1 20230415 7 0 (negsuc 6)
    ∷ gives (due 1 2 1 0 ∷ due 3 4 18446744073709551615 18446744073709551615 ∷ due 1 3 2 0 ∷ []) 1 20230417 3 0 (negsuc 2)
    ∷ []

-- ---- the limit

within : List Row
within =
    gives (due 1 2 9007199254740992 0 ∷ []) 1 20230417 9007199254740992 0 (negsuc 9007199254740991)
    ∷ gives (due 1 2 9007199254740991 1 ∷ []) 2 20230417 0 9007199254740992 (pos 9007199254740992)
    ∷ gives (due 1 2 9007199254740992 0 ∷ due 2 1 9007199254740992 0 ∷ []) 1 20230417 9007199254740992 9007199254740992 (pos 0)
    ∷ gives (made 1 0 1 2 9007199254740992 0 20230418 ∷ due 1 2 5 0 ∷ []) 1 20230417 5 0 (negsuc 4)
    ∷ refuses (bytes_of_all (due 1 2 9007199254740992 1 ∷ [])) 1 20230417 19
    ∷ refuses (bytes_of_all (due 1 2 9007199254740992 0 ∷ due 1 2 1 0 ∷ [])) 1 20230417 19
    ∷ refuses (bytes_of_all (due 1 2 9007199254740992 0 ∷ due 1 2 0 1 ∷ [])) 2 20230417 19
    ∷ refuses (bytes_of_all (due 1 2 9223372036854775808 9223372036854775808 ∷ [])) 1 20230417 19
    ∷ []

-- ---- bad runs, accounts and dates

bad : List Row
bad =
    refuses (take 69 (bytes_of_all both)) 1 20230417 18
    ∷ refuses (0 ∷ []) 1 20230417 18
    ∷ refuses (bytes_of_all both ++ (2 ∷ 0 ∷ 2 ∷ 0 ∷ [])) 1 20230417 18
    ∷ refuses (34 ∷ take 34 (bytes_of_all both)) 1 20230417 18
    ∷ refuses (bytes_of_all (due 1 1 1 0 ∷ [])) 1 20230417 18
    ∷ refuses (bytes_of_all (due 1 2 9223372036854775808 9223372036854775808 ∷ due 16 1 1 0 ∷ [])) 1 20230417 18
    ∷ refuses (bytes_of_all (due 1 16 1 0 ∷ due 1 2 1 0 ∷ [])) 1 20230417 18
    ∷ refuses (bytes_of_all (made 1 1 16 1 1 0 0 ∷ [])) 2 20230417 18
    ∷ refuses (bytes_of_all both) 16 20230417 18
    ∷ refuses (bytes_of_all both) 1 20230230 18
    ∷ refuses [] 1 0 18
    ∷ []

-- ---- doubles

same_sign : Bool → Bool → Bool
same_sign true s = s
same_sign false s = not s

-- A double that is a whole number: its sign, and an odd number or 0 times a power of 2.
same_double : Float → Bool → ℕ → ℕ → Bool
same_double nan s n k = false
same_double (inf t) s n k = false
same_double (fin t m (pos e)) s n k = same_sign t s && eqb m n && eqb e k
same_double (fin t m (negsuc e)) s n k = false

-- 100,005, 40,000 = 625 * 2 ^ 6 and - 60,005; 2 ^ 53, 0 and - 2 ^ 53; three positive zeros
doubles : Bool
doubles =
    let a = (forecast_of (bytes_of_all both) 1 20230417).cash in
    let b = (forecast_of (bytes_of_all (due 1 2 9007199254740992 0 ∷ [])) 1 20230417).cash in
    let z = (forecast_of (bytes_of_all both) 16 20230417).cash in
    same_double a.pay false 100005 0 && same_double a.receive false 625 6 && same_double a.difference true 60005 0
    && same_double b.pay false 1 53 && same_double b.receive false 0 0 && same_double b.difference true 1 53
    && same_double z.pay false 0 0 && same_double z.receive false 0 0 && same_double z.difference false 0 0

rows_hold : all holds counted && all holds within && all holds bad && doubles ≡ true
unfolding opened_cash made due same_whole holds gives refuses both counted within bad same_sign same_double doubles
rows_hold = refl
