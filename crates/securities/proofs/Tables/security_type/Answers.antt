-- `security_type` reads a word of the security.
use mathlib.Core.Path.{ap, ◌∙◌}
use Rattle.securities.proofs.Checks.{type_word}
use Rattle.securities.specs.Securities.{security_of, type_of}
use mathlib.Core.List.{List}
use Prim.Native.Nat.{ℕ}
use Rattle.securities.proofs.Tables.security_type.Goals as goal

pub returns : goal.returns
returns c = type_word _ _ ∙ ap (λ (t : List ℕ). type_of (security_of t c.args.s)) c.self.view_is
