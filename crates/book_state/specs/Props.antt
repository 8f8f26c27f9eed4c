-- What every book keeps has one proof at most.
use Rattle.std.specs.Prelude.{◌≡◌}
use mathlib.Core.Logic.{∥∥₁_prop}
use mathlib.Core.Bool.{Bool-set}
use native.Mathlib.Nat.{ℕ_set}
use native.Mathlib.Bridge.{le_prop}
use Rattle.book_state.specs.State.{State}
use Rattle.book_state.specs.Whole.{Counted, Ordered, Whole}

none_prop : (x y : ⊥) → x ≡ y
none_prop x y = absurd x

counted_prop : (s : State) (x y : Counted s) → x ≡ y
counted_prop s x y = λ i. record {
  ops_within = le_prop x.ops_within y.ops_within i;
  bytes_within = le_prop x.bytes_within y.bytes_within i;
  since = le_prop x.since y.since i;
  bytes_since = le_prop x.bytes_since y.bytes_since i;
  sealed_within = le_prop x.sealed_within y.sealed_within i;
  table = ℕ_set _ _ x.table y.table i;
  room = λ e. le_prop (x.room e) (y.room e) i;
  idle = λ e. (ℕ_set _ _ (x.idle e).0 (y.idle e).0 i, ℕ_set _ _ (x.idle e).1 (y.idle e).1 i);
  light = λ k. le_prop (x.light k) (y.light k) i;
  shallow = λ k. le_prop (x.shallow k) (y.shallow k) i;
}

pub whole_prop : (s : State) (x y : Whole s) → x ≡ y
whole_prop s x y = λ i. record {
  counted = counted_prop s x.counted y.counted i;
  ends = λ k l. le_prop (x.ends k l) (y.ends k l) i;
  closed = λ k j l h. Bool-set _ _ (x.closed k j l h) (y.closed k j l h) i;
  drafted = λ p l h. Bool-set _ _ (x.drafted p l h) (y.drafted p l h) i;
  named = λ p l. Bool-set _ _ (x.named p l) (y.named p l) i;
  flagged = λ p m l e. (le_prop (x.flagged p m l e).0 (y.flagged p m l e).0 i, Bool-set _ _ (x.flagged p m l e).1 (y.flagged p m l e).1 i);
  used = λ m h. ∥∥₁_prop (x.used m h) (y.used m h) i;
  once = λ p q m l h e f. none_prop (x.once p q m l h e f) (y.once p q m l h e f) i;
  deep = λ k l. ℕ_set _ _ (x.deep k l) (y.deep k l) i;
  weighed = λ k l. ℕ_set _ _ (x.weighed k l) (y.weighed k l) i;
  low = le_prop x.low y.low i;
  held = ℕ_set _ _ x.held y.held i;
  total = ℕ_set _ _ x.total y.total i;
}

pub ordered_prop : (s : State) (x y : Ordered s) → x ≡ y
ordered_prop s x y = λ i j k l h. le_prop (x j k l h) (y j k l h) i
