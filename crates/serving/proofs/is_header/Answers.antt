-- The four bytes are compared one after the other.
use Rattle.stream.proofs.Headers.{header_first, header_second, header_third, header_fourth}
use native.Mathlib.Omega.{arith}
use Rattle.serving.proofs.is_header.Goals as goal

pub returns-then-input-following : goal.returns-then-input-following
returns-then-input-following c = header_first _ _ _ c.requires (omega arith) (omega arith) c.if-input-following.true

pub returns-then-input-ne0 : goal.returns-then-input-ne0
returns-then-input-ne0 c = header_second _ _ _ c.requires (omega arith) (omega arith) c.if-input-ne0.true

pub returns-then-input-kind : goal.returns-then-input-kind
returns-then-input-kind c = header_third _ _ _ c.requires (omega arith) (omega arith) c.if-input-following.false c.if-input-ne0.false c.if-input-kind.true

pub returns : goal.returns
returns c = header_fourth _ _ _ c.requires (omega arith) (omega arith) c.if-input-following.false c.if-input-ne0.false c.if-input-kind.false
