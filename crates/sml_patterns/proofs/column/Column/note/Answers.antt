use Rattle.std.proofs.Common.{rules, subst, sym, ◌≡◌, ◌++◌, ◌∷◌, []}
use Rattle.std.specs.HashMap.{get}
use Rattle.std.specs.Option.{option_map}
use Rattle.sml_patterns.specs.declared.keys.Key as P
use Rattle.sml_patterns.specs.CodeColumns.{key_in, same_key, items_in, keyless, grouped}
use Rattle.sml_patterns.proofs.Columns.{noted_none}
use Rattle.sml_patterns.proofs.column.Column.note.Goals as goal

pub returns-in_ok-push-in-None-clause-holds : goal.returns-in_ok-push-in-None-clause-holds
returns-in_ok-push-in-None-clause-holds c = λ keys h i.
    let known = get same_key c.args.self.now.known in
    subst (λ x. (c.push.new.self.items ≡ keyless 0 (keys ++ option_map key_in x ∷ [])) × ((k : P.Key) → items_in (known k) ≡ grouped 0 0 (keys ++ option_map key_in x ∷ []) (key_in k) k.group)) (sym c.in-None.is)
    (noted_none keys known c.args.self.now.others.items c.push.new.self.items c.args.index h.0 h.1 i (search rules))
