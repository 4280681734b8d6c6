-- The published numbers are good limits and ones are good pieces, so on a sound book none of the causes before 5 applies.
use mathlib.Core.Path.{refl}
use Rattle.securities.specs.Lent.{from_one_to, good_limits, good_pieces, ones}
use Rattle.claims.specs.Fails.{maximum_numbers}
use Rattle.book.proofs.Judged.{sound_lent}
use Rattle.transfers.proofs.transfer_sound.Goals as goal

pub of-requires-2 : goal.of-requires-2
unfolding good_pieces from_one_to
of-requires-2 c = refl

pub transfer_lent-requires : goal.transfer_lent-requires
unfolding good_limits good_pieces from_one_to
transfer_lent-requires c = rw (c.of.ensures, c.of-2.ensures) (sound_lent _ _ _ _ _ _ c.requires refl refl)

pub returns : goal.returns
unfolding maximum_numbers ones
returns c = rw (c.of.ensures, c.of-2.ensures) at c.transfer_lent.ensures
