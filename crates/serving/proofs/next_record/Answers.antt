-- Each return says what the input begins with, by its length and its header.
use mathlib.Core.Path.{sym, ◌∙◌}
use Rattle.stream.proofs.Headers.{next_empty, next_short, next_transfer, next_cut, next_close, next_wrong}
use Rattle.serving.proofs.next_record.Goals as goal

pub returns-then-input-eq0 : goal.returns-then-input-eq0
returns-then-input-eq0 c = next_empty _ _ c.if-input-eq0.true

pub returns-then-input-lt4 : goal.returns-then-input-lt4
returns-then-input-lt4 c = c.cut.ensures ∙ next_short _ _ c.if-input-eq0.false c.if-input-lt4.true

pub returns-then-input-ge141 : goal.returns-then-input-ge141
returns-then-input-ge141 c = next_transfer _ _ c.if-input-lt4.false (sym c.if-is_header.true ∙ c.is_header.ensures) c.if-input-ge141.true

pub returns-then-is_header : goal.returns-then-is_header
returns-then-is_header c = c.cut-then-is_header.ensures ∙ next_cut _ _ c.if-input-lt4.false (sym c.if-is_header.true ∙ c.is_header.ensures) c.if-input-ge141.false

pub returns-then-is_header-2 : goal.returns-then-is_header-2
returns-then-is_header-2 c = next_close _ _ c.if-input-lt4.false (sym c.if-is_header.false ∙ c.is_header.ensures) (sym c.if-is_header-2.true ∙ c.is_header-2.ensures)

pub returns : goal.returns
returns c = next_wrong _ _ c.if-input-lt4.false (sym c.if-is_header.false ∙ c.is_header.ensures) (sym c.if-is_header-2.false ∙ c.is_header-2.ensures)
