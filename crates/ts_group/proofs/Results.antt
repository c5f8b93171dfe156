-- What holds of a result either way.
use Rattle.std.proofs.Common.{Ok, Err, Result}
use Rattle.std.specs.Result.{OnOk, OnErr}

pub on_either : {A E : Type 0} (r : Result A E) (P Q C : Type 0) → OnOk r P → OnErr r Q → (P → C) → (Q → C)
    → C
on_either (Ok x) P Q C h k f g = f h
on_either (Err e) P Q C h k f g = g k
