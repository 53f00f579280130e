-- That a refusal stands in its declaration.
use Rattle.std.specs.Prelude.{◌≡◌, Bool, true}
use Rattle.sml_lex.specs.declared.fault.Place.{Place}
use Rattle.sml_lex.specs.Faults.{Fault}
use Rattle.sml_tree.specs.Structures.{TopDec}
use Rattle.sml_parse.specs.EachPlace.{EachInTop}
use Rattle.sml_objects.specs.Initial.{Name}
use Rattle.sml_rules.specs.Answers.{refused}
use Rattle.sml_core_rules.specs.Objects.{Basis}
use Rattle.sml_core_rules.specs.States.{Scope}
use Rattle.sml_module_rules.specs.Structures.{IsTopReading}

-- The place of a fault is the declaration's own or one that stands in its tree: where all these are such, so is that of the fault.
abbrev pub RefusalsStand : Type 0
RefusalsStand =
    (scope : Scope Name) (is_such : Place → Bool) (p : Place) (B : Basis Name) (d : TopDec Place) (f : Fault Place) → is_such p ≡ true
    → EachInTop (λ q. is_such q ≡ true) d → IsTopReading scope p B d (refused f) → is_such f.place ≡ true
