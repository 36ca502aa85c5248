-- Ranges over a lawful kind are a lawful kind.
use Rattle.std.proofs.Common.{ap₂}
use Rattle.grades.specs.Kinds.{Kind, Lawful}
use Rattle.grades.specs.Ranges.{span, spans}

pub spans_lawful : {K : Kind} → Lawful K → Lawful (spans K)
spans_lawful {K} L = record {
  below_refl = λ p. (L.below_refl p.low, L.below_refl p.high);
  below_trans = λ p q r h k. (L.below_trans p.low q.low r.low h.0 k.0, L.below_trans p.high q.high r.high h.1 k.1);
  below_antisym = λ p q h k. ap₂ span (L.below_antisym p.low q.low h.0 k.0) (L.below_antisym p.high q.high h.1 k.1);
  meet_left = λ p q. (L.meet_left p.low q.low, L.meet_left p.high q.high);
  meet_right = λ p q. (L.meet_right p.low q.low, L.meet_right p.high q.high);
  meet_most = λ p q r h k. (L.meet_most p.low q.low r.low h.0 k.0, L.meet_most p.high q.high r.high h.1 k.1);
  join_left = λ p q. (L.join_left p.low q.low, L.join_left p.high q.high);
  join_right = λ p q. (L.join_right p.low q.low, L.join_right p.high q.high);
  join_least = λ p q r h k. (L.join_least p.low q.low r.low h.0 k.0, L.join_least p.high q.high r.high h.1 k.1);
  opposite_twice = λ p. ap₂ span (L.opposite_twice p.low) (L.opposite_twice p.high);
  opposite_turns = λ p q h. (L.opposite_turns p.high q.high h.1, L.opposite_turns p.low q.low h.0);
  lowest_below = λ p. (L.lowest_below p.low, L.lowest_below p.high);
  highest_above = λ p. (L.highest_above p.low, L.highest_above p.high);
  gap_rises = λ p q f g h. (L.gap_rises p q f g h, L.gap_rises p q f g h);
}
