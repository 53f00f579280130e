use Rattle.std.proofs.Common.{◌≡◌, ◌++◌, map}
use Rattle.std.specs.Option.{option_or}
use Rattle.sml_objects.specs.Initial.{Name}
use Rattle.sml_objects.specs.Views.{maker_of, name_of}
use Rattle.sml_type_maps.specs.Mapped.{names_of}
use Rattle.sml_type_maps.specs.NewNames.{carries, is_new}
use Rattle.sml_envs.specs.Renamed.{carries_like, made_like, new_for, number_after}
use Rattle.sml_envs.proofs.Renamings.{left}
use Rattle.sml_envs.proofs.renaming.Renaming.of.Given as goal

abbrev pub invariant-loop-name : goal.invariant-loop-name
invariant-loop-name l =
    let u = maker_of l.fn.new.unit in
    let rest = left l.name-index l.names in
    let all = map name_of l.names in
    record {
      made : map name_of l.renaming.made.items ++ made_like u l.new.next rest ≡ made_like u l.fn.new.next all;
      others : (n : Name) → option_or (new_for rest (made_like u l.new.next rest) n) (names_of l.renaming.others.entries n) ≡ new_for all (made_like u l.fn.new.next all) n;
      carried : (n : Name) → carries_like (is_new l.fn.new) rest (made_like u l.new.next rest) (carries l.new) n ≡ carries_like (is_new l.fn.new) all (made_like u l.fn.new.next all) (carries l.fn.new) n;
      next : number_after l.new.next rest ≡ number_after l.fn.new.next all;
      basis : l.new.basis ≡ l.fn.new.basis;
      unit : l.new.unit ≡ l.fn.new.unit;
    }
