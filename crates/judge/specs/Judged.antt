-- What holds of a table that was judged.
use Rattle.grades.specs.Kinds.{Kind}
use Rattle.meaning.specs.Readings.{Readings}
use Rattle.judge.specs.declared.judged.Judged.{Judged}
use Rattle.judge.specs.Markings.{Standing}

-- its lists are those of the readings that x tells of its lines
abbrev pub JudgedStands : (K : Kind) {G L : Type 0} → (G → K.Value) → (L → Readings) → Judged G L → Type 0
JudgedStands K value x j = Standing K j.rows.now (x j.lines.now) value j.tick j.limit j.ranges.begins.now j.ranges.cells.now
