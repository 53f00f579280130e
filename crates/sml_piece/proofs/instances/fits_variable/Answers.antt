use Rattle.std.proofs.Common.{ap, sym, ◌∙◌, Global}
use Rattle.std.specs.Option.{option_map}
use Rattle.std.specs.declared.rc.Rc.{Rc}
use Rattle.sml_objects.specs.Views.{type_of}
use Rattle.sml_objects.specs.declared.objects.MlType.{MlType}
use Rattle.sml_piece.specs.CodeMatched.{found_in}
use Rattle.sml_piece.proofs.Fitting.{fits_found, fits_new, found_more}
use Rattle.sml_piece.proofs.instances.fits_variable.Goals as goal

pub returns-in-Some : goal.returns-in-Some
returns-in-Some c =
    fits_found (found_in c.args.found.now.entries) c.args.variable (type_of c.in-Some.before.now.value) (type_of c.args.ty.now.value) c.same_type.result
    (ap (option_map (λ (t : Rc MlType Global). type_of t.value)) (sym c.in-Some.ensures.value))
    (λ h. ap type_of (sym c.deref.ensures) ∙ c.same_type.ensures.yes h ∙ ap type_of c.deref-in-Some.ensures)
    (λ h e. c.same_type.ensures.no h (ap type_of c.deref.ensures ∙ e ∙ ap type_of (sym c.deref-in-Some.ensures)))

pub returns : goal.returns
returns c =
    fits_new (found_in c.args.found.now.entries) (found_in c.insert.new.self.entries) c.args.variable (type_of c.args.ty.now.value)
    (ap (option_map (λ (t : Rc MlType Global). type_of t.value)) (sym c.in_default.ensures.value))
    (found_more c.args.found.now.entries c.insert.new.self.entries c.args.variable c.in_ok-clone.field-0 _ (ap type_of c.in_ok-clone.ensures.cases) c.in_ok-insert.ensures.updates.0)
