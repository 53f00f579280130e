use Rattle.std.proofs.Common.{◌∙◌, ap}
use Rattle.sml_objects.specs.Initial.{initial}
use Rattle.sml_objects.specs.Names.{int}
use Rattle.sml_objects.specs.Objects.{app, name, types_of}
use Rattle.sml_objects.specs.declared.objects.Initial.TheVariants.{Int}
use Rattle.sml_objects.specs.declared.objects.TyName.TheVariants.{Initial}
use Rattle.sml_objects.proofs.TypeViews.{parts_of, type_of-name}
use Rattle.sml_solve.proofs.solver.int_type.Goals as goal

pub returns : goal.returns
returns c = type_of-name (Initial Int) c.new.result ∙ ap (λ ts. app (name (initial int)) (types_of (parts_of ts))) c.new.ensures.items
