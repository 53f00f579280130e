-- Answers with other places in the place of theirs.
use Rattle.std.specs.Prelude.{List, map}
use Rattle.sml_lex.specs.Faults.{Fault}
use Rattle.sml_tree.specs.Patterns.{Pat}
use Rattle.sml_rules.specs.Answers.{Answer, refused, accepted}
use Rattle.sml_core_rules.specs.States.{Holder, of_fn, of_handle, of_val, Judged}
use Rattle.sml_module_rules.specs.Structures.{Added}
use Rattle.sml_places.specs.Places.{place_pat}

module _ {P Q : Type 0} (f : P → Q) where
  abbrev pub place_fault : Fault P → Fault Q
  place_fault e = record { code = e.code; place = f e.place; detail = e.detail }

  abbrev pub place_answer : {X : Type 0} → Answer P X → Answer Q X
  place_answer (refused e) = refused (place_fault e)
  place_answer (accepted x) = accepted x

  -- what is to be judged

  abbrev pub place_holder : Holder P → Holder Q
  place_holder (of_fn p) = of_fn (f p)
  place_holder (of_handle p) = of_handle (f p)
  place_holder (of_val p) = of_val (f p)

  abbrev pub place_patterns : List (P × Pat P) → List (Q × Pat Q)
  place_patterns qs = map (λ q. (f q.0, place_pat f q.1)) qs

  abbrev pub place_judged : Judged P → Judged Q
  place_judged j = record { holder = place_holder j.holder; patterns = place_patterns j.patterns; status = j.status }

  abbrev pub place_added : {N : Type 0} → Added P N → Added Q N
  place_added A = record { basis = A.basis; judged = map place_judged A.judged }

  -- an answer to a declaration
  abbrev pub place_reading : {N : Type 0} → Answer P (Added P N) → Answer Q (Added Q N)
  place_reading (refused e) = refused (place_fault e)
  place_reading (accepted A) = accepted (place_added A)

-- without its place
abbrev pub forget_judged : {P : Type 0} → Judged P → Judged (Unit {0})
forget_judged j = place_judged (λ p. tt) j
