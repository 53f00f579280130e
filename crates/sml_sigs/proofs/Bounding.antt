-- A name that is found among those that a signature binds.
use Rattle.std.proofs.Common.{◌≡◌, Bool, cond, List, Option, Some, None, map, ap, sym, ◌∙◌}
use Rattle.std.specs.List.{list_any}
use Rattle.sml_objects.specs.Views.{name_of}
use Rattle.sml_objects.specs.Initial.{Name}
use Rattle.sml_objects.specs.declared.objects.TyName.{TyName}
use Rattle.sml_objects.proofs.NameTests.{eq, stands-any}
use Rattle.sml_sigs.specs.Bound.{bound_as}

pub bound-by : (ns : List TyName) (n : TyName) (o : Option Name) (b : Bool) → Some (name_of n) ≡ o → list_any (eq n) ns ≡ b
    → cond b (Some (name_of n)) None ≡ bound_as (map name_of ns) o
bound-by ns n o b e h =
    ap (λ c. cond c (Some (name_of n)) None) (sym (stands-any n ns ∙ h)) ∙ ap (bound_as (map name_of ns)) e
