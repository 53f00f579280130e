-- What is said of an answer, where a call gives none.
use Rattle.std.proofs.Common.{Result, Ok, Err, OnOk}
use Rattle.std.specs.Result.{IsErr}

pub none_given : {A E : Type 0} (r : Result A E) (P : Type 0) → IsErr r → OnOk r P
none_given (Ok a) P failed = cc
none_given (Err e) P failed = tt
