-- The type constructors are put one after the other.
use Rattle.std.proofs.Common.{ap, ◌∙◌, codes, []}
use Rattle.sml_objects.specs.Names.{int, word, char, string, bool, exn, real, list, ref}
use Rattle.sml_objects.specs.Objects.{mono}
use Rattle.sml_objects.specs.Puts.{with_type}
use Rattle.sml_objects.specs.Initial.{initial_basis, simple, unary}
use Rattle.sml_objects.specs.Views.{row_of}
use Rattle.sml_objects.proofs.bases.initial_env.Goals as goal

pub returns : goal.returns
unfolding initial_basis
returns c =
    c.in_ok-put_simple-7.ensures
    ∙ ap (with_type (codes "word") (simple (codes "word") word).1) (c.in_ok-put_unit.ensures
    ∙ ap (with_type (codes "unit") (mono (row_of [] []))) (c.in_ok-put_simple-6.ensures
    ∙ ap (with_type (codes "string") (simple (codes "string") string).1) (c.in_ok-put_unary-2.ensures
    ∙ ap (with_type (codes "ref") (unary (codes "ref") ref).1) (c.in_ok-put_simple-5.ensures
    ∙ ap (with_type (codes "real") (simple (codes "real") real).1) (c.in_ok-put_unary.ensures
    ∙ ap (with_type (codes "list") (unary (codes "list") list).1) (c.in_ok-put_simple-4.ensures
    ∙ ap (with_type (codes "int") (simple (codes "int") int).1) (c.in_ok-put_simple-3.ensures
    ∙ ap (with_type (codes "exn") (simple (codes "exn") exn).1) (c.in_ok-put_simple-2.ensures
    ∙ ap (with_type (codes "char") (simple (codes "char") char).1) (c.in_ok-put_simple.ensures
    ∙ ap (with_type (codes "bool") (simple (codes "bool") bool).1) (c.new-env.ensures))))))))))
