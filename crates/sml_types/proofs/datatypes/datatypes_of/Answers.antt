use Rattle.std.proofs.Common.{◌≡◌, min, take, get_or, length, refl, ap, sym, ◌∙◌, arith}
use Rattle.sml_tree.specs.BindingViews.{dat_bind_of}
use Rattle.sml_core_rules.specs.Datatypes as read
use Rattle.sml_core_rules.specs.Objects.{empty, extend}
use Rattle.sml_objects.specs.Views.{name_of}
use Rattle.sml_objects.specs.declared.objects.TyName.{TyName}
use Rattle.sml_objects.specs.declared.objects.TyName.TheVariants.{Initial}
use Rattle.sml_objects.specs.declared.objects.Initial.TheVariants.{Int}
use Rattle.sml_types.specs.Losses.{losing, losing_arguments}
use Rattle.sml_types.proofs.DatatypeRows.{row, rows, rows-all, rows-meant, rows-next}
use Rattle.sml_types.proofs.Extensions.{put_all, put_all-envs, put_all-push}
use Rattle.sml_types.proofs.datatypes.datatypes_of.Goals as goal

pub loop-index-preserved : goal.loop-index-preserved
loop-index-preserved c =
    let r = c.args.run in
    let lost = c.deref.result.now in
    let i = c.loop-index.index in
    let bs = c.args.binds.now in
    let ns = c.args.names.now in
    let gs = c.args.arguments.now in
    let b = c.index-binds-index.result in
    let m : TyName = Initial Int in
    let n = get_or ns i m in
    let g = c.index-arguments-index.result in
    let next = rows-next r lost bs ns gs i b n m g (omega (arith, c.loop-index-test.true, c.min-count.ensures, c.min.ensures)) (omega (arith, c.loop-index-test.true, c.min-count.ensures, c.min.ensures)) (omega (arith, c.loop-index-test.true, c.min-count.ensures, c.min.ensures)) c.index-binds-index.is refl c.index-arguments-index.is in
    c.in_ok-put_datatype.ensures
    ∙ (λ j. extend (c.loop-index.invariant j) (read.datatype_env (dat_bind_of b) (losing r lost (name_of n)) (losing_arguments r lost b.constructors.items (c.deref-in-loop-index.ensures.value j))))
    ∙ sym (put_all-push empty (rows r lost (take i bs) (take i ns) (take i gs)) (row r lost b n g))
    ∙ ap (put_all empty) (sym next)

pub returns : goal.returns
returns c =
    let bs = c.args.binds.now in
    let ns = c.args.names.now in
    let gs = c.args.arguments.now in
    let k = c.loop-index.index in
    let lost = c.in_ok-lost.lost.items in
    let whole = rows c.args.run lost bs ns gs in
    let count : k ≡ min (min (length bs) (length ns)) (length gs) = omega (arith, c.loop-index-test.false, c.loop-index.auto.index-end, c.min-count.ensures, c.min.ensures) in
    record {
      lost = lost;
      flags = c.in_ok-lost.ensures.len;
      largest = c.in_ok-lost.ensures.largest;
      env =
          c.loop-index.invariant
          ∙ (λ i. put_all empty (rows c.args.run (c.deref.ensures.value i) (take k bs) (take k ns) (take k gs)))
          ∙ ap (put_all empty) (rows-all c.args.run lost bs ns gs k count)
          ∙ put_all-envs whole
          ∙ rows-meant c.args.run lost bs ns gs;
    }
