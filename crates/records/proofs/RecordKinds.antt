-- What the laws ask of a kind, shown for each of the four by computation; and a struct is known by its values.
use mathlib.Core.Path.{◌≡◌, refl, ap}
use mathlib.Core.List.{List}
use Prim.Native.Nat.{ℕ, ◌+◌, ◌^◌, ◌<◌}
use lib.Dec.{lit<}
use lib.ListN.{get_or}
use Rattle.lists.specs.Fields.{total}
use Rattle.records.specs.declared.Transfer.{Transfer}
use Rattle.records.specs.declared.Claim.{Claim}
use Rattle.records.specs.declared.Answer.{Answer}
use Rattle.records.specs.MessageRecords.{Kind, transfer_kind, close_kind, claim_kind, answer_kind}
use Rattle.records.specs.MessageRecords.{transfer_values, claim_values, answer_values}

-- the length field counts the kind, the numbers and the text, and both numbers of the header fit their two bytes
pub record Lawful (k : Kind) : Type 0 where
  pub sized : total k.widths + k.text + 2 ≡ k.following
  pub short : k.following < 256 ^ 2
  pub small : k.kind < 256 ^ 2

pub transfer_lawful : Lawful transfer_kind
unfolding transfer_kind total
transfer_lawful = record { sized = refl; short = lit< tt; small = lit< tt }

pub close_lawful : Lawful close_kind
unfolding close_kind total
close_lawful = record { sized = refl; short = lit< tt; small = lit< tt }

pub claim_lawful : Lawful claim_kind
unfolding claim_kind total
claim_lawful = record { sized = refl; short = lit< tt; small = lit< tt }

pub answer_lawful : Lawful answer_kind
unfolding answer_kind total
answer_lawful = record { sized = refl; short = lit< tt; small = lit< tt }

-- ---- the struct of given values

pub transfer_same : (t u : Transfer) → transfer_values t ≡ transfer_values u → t ≡ u
unfolding transfer_values
transfer_same t u e = ap from e
  where
    from : List ℕ → Transfer
    from vs =
        record {
          sender = get_or vs 0 0;
          receiver = get_or vs 1 0;
          security = get_or vs 2 0;
          class = get_or vs 3 0;
          code = get_or vs 4 0;
          par = get_or vs 5 0;
        }

pub claim_same : (c d : Claim) → claim_values c ≡ claim_values d → c ≡ d
unfolding claim_values
claim_same c d e = ap from e
  where
    from : List ℕ → Claim
    from vs =
        record {
          claim_type = get_or vs 0 0;
          outcome = get_or vs 1 0;
          payer = get_or vs 2 0;
          payee = get_or vs 3 0;
          security = get_or vs 4 0;
          row = get_or vs 5 0;
          transfer = get_or vs 6 0;
          interest = record { 0 = get_or vs 7 0 };
          principal = record { 0 = get_or vs 8 0 };
          release = get_or vs 9 0;
          slot = get_or vs 10 0;
        }

pub answer_same : (a b : Answer) → answer_values a ≡ answer_values b → a ≡ b
unfolding answer_values
answer_same a b e = ap from e
  where
    from : List ℕ → Answer
    from vs = record { number = get_or vs 0 0 }
