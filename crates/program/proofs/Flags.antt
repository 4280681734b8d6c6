-- What the flags after a step say of each other.
use mathlib.Core.Path.{◌≡◌, refl, sym}
use mathlib.Core.Bool.{Bool, true, false, not, ◌&&◌, ◌||◌, true≢false}

-- not over: no 5
pub not_over : (five ended full : Bool) → five || (ended && not full) ≡ false → five ≡ false
not_over true ended full q = absurd (true≢false q)
not_over false ended full q = refl

-- not over with room left: the input goes on
pub not_ended : (five ended full : Bool) → five || (ended && not full) ≡ false → full ≡ false → ended ≡ false
not_ended true ended full q f = absurd (true≢false q)
not_ended false true true q f = absurd (true≢false f)
not_ended false true false q f = absurd (true≢false q)
not_ended false false full q f = refl

-- input is asked for: not over, with room left
pub asks_open : (over full : Bool) → not over && not full ≡ true → (over ≡ false) × (full ≡ false)
asks_open true full q = absurd (true≢false (sym q))
asks_open false true q = absurd (true≢false (sym q))
asks_open false false q = (refl, refl)

-- neither over nor asking: no room left
pub rests_full : (over full : Bool) → over ≡ false → not over && not full ≡ false → full ≡ true
rests_full true full o q = absurd (true≢false o)
rests_full false true o q = refl
rests_full false false o q = absurd (true≢false q)

-- over without a 5: the input has ended, with room left
pub over_ended : (five ended full : Bool) → five ≡ false → five || (ended && not full) ≡ true → (ended ≡ true) × (full ≡ false)
over_ended true ended full f q = absurd (true≢false f)
over_ended false true true f q = absurd (true≢false (sym q))
over_ended false true false f q = (refl, refl)
over_ended false false full f q = absurd (true≢false (sym q))

pub is_false : (b : Bool) → (b ≡ true → ⊥) → b ≡ false
is_false true n = absurd (n refl)
is_false false n = refl
