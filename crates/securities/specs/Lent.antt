-- What a transfer is lent beside calendar and tables. Document 02, card 5: date limits, which are maximum numbers of Beneficiary Dates.
-- Card 6: minimum pieces, the par that each security is delivered in multiples of.
use Rattle.std.specs.Prelude.{Bool, cond, ◌&&◌, List, ℕ, eqb, leb, length, get_or, replicate}
use Rattle.lists.specs.All.{all}
use Rattle.securities.specs.Securities.{security_of, type_of, frequency_of}

-- A number from 1 to a largest.
unfoldable pub from_one_to : ℕ → ℕ → Bool
from_one_to largest n = leb 1 n && leb n largest

-- ---- date limits

-- Five numbers: MBS, then monthly, quarterly, semiannual, annual.
abbrev pub limit_words : ℕ
limit_words = 5

-- Each is 1 to 16.
abbrev pub largest_limit : ℕ
largest_limit = 16

-- From monthly to annual none is larger than the one before. MBS stands apart: it may be smaller than monthly.
unfoldable pub good_limits : List ℕ → Bool
good_limits limits =
    eqb (length limits) limit_words && all (from_one_to largest_limit) limits
    && leb (get_or limits 2 0) (get_or limits 1 0) && leb (get_or limits 3 0) (get_or limits 2 0) && leb (get_or limits 4 0) (get_or limits 3 0)

-- Types 3 and 4 are MBS.
unfoldable pub is_mbs : ℕ → Bool
is_mbs type = leb 3 type

-- Of such numbers the one for a type and a frequency.
unfoldable pub maximum_for : List ℕ → ℕ → ℕ → ℕ
maximum_for numbers type frequency = cond (is_mbs type) (get_or numbers 0 0) (get_or numbers frequency 0)

-- The maximum number of a security by the date limits that the transfer is lent.
unfoldable pub maximum_of : List ℕ → List ℕ → ℕ → ℕ
maximum_of tables limits s =
    let words = security_of tables s in
    maximum_for limits (type_of words) (frequency_of words)

-- ---- minimum pieces

-- Sixteen numbers, one for each security.
abbrev pub piece_words : ℕ
piece_words = 16

-- Each is 1 to 1,000,000, those of unused securities too.
abbrev pub largest_piece : ℕ
largest_piece = 1000000

unfoldable pub good_pieces : List ℕ → Bool
good_pieces pieces = eqb (length pieces) piece_words && all (from_one_to largest_piece) pieces

-- The piece of a security. Good pieces have a number for every security of the book; where a list has none it is 1.
unfoldable pub piece_of : List ℕ → ℕ → ℕ
piece_of pieces s = get_or pieces s 1

-- Every par is a multiple of one: calls from before the pieces, and those of a stream, count as lent ones.
unfoldable pub ones : List ℕ
ones = replicate piece_words 1
