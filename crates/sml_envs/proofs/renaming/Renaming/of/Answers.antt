use Rattle.std.proofs.Common.{◌+◌, ap, sym, ◌∙◌, get_or, map}
use Rattle.std.proofs.lemmas.List.{drop_all}
use Rattle.std.specs.Option.{option_or}
use Rattle.sml_objects.specs.Views.{maker_of, name_of}
use Rattle.sml_objects.specs.declared.objects.Initial.TheVariants as I
use Rattle.sml_objects.specs.declared.objects.TyName.TheVariants as T
use Rattle.sml_type_maps.specs.Mapped.{names_of}
use Rattle.sml_type_maps.specs.NewNames.{carries, is_new}
use Rattle.sml_envs.specs.Renamed.{carries_like, made_like, new_for, number_after}
use Rattle.sml_envs.proofs.Renamings.{carried-next, left, left-more, listed-next, made-next, made-push, number-next}
use Rattle.sml_envs.proofs.renaming.Renaming.of.Goals as goal

pub loop-name-preserved : goal.loop-name-preserved
loop-name-preserved c =
    let xs = c.args.names.now in
    let first = T.Initial I.Int in
    let i = c.loop-name.name-index in
    let x = get_or xs i first in
    let m = c.in_ok-other.other in
    let u = maker_of c.args.new.now.unit in
    let s = c.loop-name.new in
    let k = c.make_like.new.self.next in
    let es = c.loop-name.renaming.others.entries in
    let rest = left (i + 1) xs in
    let more = left-more xs i first c.loop-name-test.true in
    let before = c.loop-name.invariant in
    let whole = made-next s u k (name_of x) (name_of m) rest (ap maker_of before.unit) c.in_ok-other.ensures.made c.in_ok-other.ensures.next ∙ ap (made_like u s.next) (sym more) in
    record {
      made = made-push u k s.next c.loop-name.renaming.made.items c.push.new.self.items m rest (left i xs) c.in_ok-push.ensures.items whole ∙ before.made;
      others = λ n.
          listed-next es c.insert.new.self.entries x m rest (made_like u k rest) (made_like u s.next (left i xs)) n c.in_ok-insert.ensures.entries whole
          ∙ ap (λ l. option_or (new_for l (made_like u s.next (left i xs)) n) (names_of es n)) (sym more)
          ∙ before.others n;
      carried = λ n.
          carried-next s c.make_like.new.self c.args.new.now (name_of x) (name_of m) rest (made_like u k rest) (made_like u s.next (left i xs)) n before.unit before.basis
          c.in_ok-other.ensures.made c.in_ok-other.ensures.carried whole
          ∙ ap (λ l. carries_like (is_new c.args.new.now) l (made_like u s.next (left i xs)) (carries s) n) (sym more)
          ∙ before.carried n;
      next = number-next s k (name_of x) rest c.in_ok-other.ensures.next ∙ ap (number_after s.next) (sym more) ∙ before.next;
      basis = c.make_like.ensures.basis ∙ before.basis;
      unit = c.make_like.ensures.unit ∙ before.unit;
    }

pub returns-clause-carried : goal.returns-clause-carried
returns-clause-carried c = λ n.
    let r = c.args.new.now in
    let s = c.loop-name.new in
    sym (ap (λ l. carries_like (is_new r) (map name_of l) (made_like (maker_of r.unit) s.next (map name_of l)) (carries s) n) (drop_all c.loop-name.name-index c.args.names.now c.loop-name-test.false))
    ∙ c.loop-name.invariant.carried n
