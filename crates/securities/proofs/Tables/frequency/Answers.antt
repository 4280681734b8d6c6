-- `frequency` reads a word of the security.
use mathlib.Core.Path.{ap, ◌∙◌}
use Rattle.securities.proofs.Checks.{frequency_word}
use Rattle.securities.specs.Securities.{security_of, frequency_of}
use mathlib.Core.List.{List}
use Prim.Native.Nat.{ℕ}
use Rattle.securities.proofs.Tables.frequency.Goals as goal

pub returns : goal.returns
returns c = frequency_word _ _ ∙ ap (λ (t : List ℕ). frequency_of (security_of t c.args.s)) c.self.view_is
