-- What holds where all went well.
use Rattle.std.proofs.Common.{Ok, Err, Result, OnOk}

pub on_ok : {A E : Type 0} (r : Result A E) (P Q : Type 0) → (P → Q) → OnOk r P → OnOk r Q
on_ok (Ok u) P Q f p = f p
on_ok (Err e) P Q f p = tt

pub ok_anyway : {A E : Type 0} (r : Result A E) (P : Type 0) → P → OnOk r P
ok_anyway (Ok u) P p = p
ok_anyway (Err e) P p = tt
