use Rattle.std.proofs.Common.{rules}
use Rattle.std.proofs.lemmas.Fn.{filter_same}
use Rattle.sml_objects.specs.Canonical.{is_new}
use Rattle.sml_objects.specs.Views.{maker_of, name_of}
use Rattle.sml_objects.proofs.canonical.keep_new.Goals as goal

pub returns : goal.returns
returns c =
    filter_same _ (λ n. is_new (maker_of c.args.unit) c.args.count (name_of n)) _ (λ x b f k. search rules) _ _ c.retain.ensures.filtered
