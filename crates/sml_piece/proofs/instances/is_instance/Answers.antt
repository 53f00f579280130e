use Rattle.std.proofs.Common.{subst, IfOk}
use Rattle.sml_objects.specs.Views.{type_of}
use Rattle.sml_piece.specs.CodeMatched.{Fits, found_in}
use Rattle.sml_piece.proofs.Fitting.{decided, none_found}
use Rattle.sml_piece.proofs.instances.is_instance.Goals as goal

pub returns : goal.returns
returns c = λ o.
    decided (found_in c.new-found.result.entries) (found_in c.fits.new.found.entries) c.args.scheme.now.variables.items (type_of c.args.scheme.now.body.value) (type_of c.args.ty.now.value) c.fits.result
    (none_found c.new-found.result.entries c.new-found.ensures.empty) o
    (subst (λ b. IfOk c.fits.result (Fits (found_in c.new-found.result.entries) (found_in c.fits.new.found.entries) (type_of b) (type_of c.args.ty.now.value))) c.deref.ensures c.fits.ensures)
