use Rattle.std.proofs.Common.{◌++◌, ◌∷◌, [], ap, sym, subst, ◌∙◌, Some, None}
use Rattle.sml_tree.specs.Views.{ident_of}
use Rattle.sml_rules.specs.Lookups.{found}
use Rattle.sml_bases.specs.Views.{env_of}
use Rattle.sml_types.proofs.Entries.{structure-read}
use Rattle.sml_match.specs.Searches.{IsHeldAt}
use Rattle.sml_match.specs.declared.realise.Held.TheVariants.{Missing}
use Rattle.sml_match.proofs.Held.{held-inside, held-nowhere, still-nowhere}
use Rattle.sml_match.proofs.realise.structure_in.Goals as goal

pub returns-in-Missing : goal.returns-in-Missing
returns-in-Missing c = λ E path e h.
    let k = c.in-Missing.field-0 in
    let s = ident_of c.args.name.now in
    let m : IsHeldAt E path (Missing k) = subst (λ q. IsHeldAt E path q) c.in-Missing.is h in
    subst (λ q. IsHeldAt E (path ++ s ∷ []) q) (sym c.in-Missing.is) (still-nowhere E path s k m.0 m.1)

pub returns-in-Some : goal.returns-in-Some
returns-in-Some c = λ E path e h.
    let s = ident_of c.args.name.now in
    let there = structure-read c.in-Env.env.now c.args.name.now (Some c.in-Some.structure) c.in-Some.ensures.value in
    held-inside E (env_of c.in-Env.env.now) (env_of c.in-Some.structure.now.value) path s (subst (λ q. IsHeldAt E path q) c.in-Env.is h) (sym there)
    ∙ ap (λ e. found (env_of e)) (sym c.deref.ensures)

pub returns-in-None : goal.returns-in-None
returns-in-None c = λ E path e h.
    let s = ident_of c.args.name.now in
    let there = structure-read c.in-Env.env.now c.args.name.now None c.in-None.ensures.value in
    held-nowhere E (env_of c.in-Env.env.now) path s c.args.length (subst (λ q. IsHeldAt E path q) c.in-Env.is h) (sym there) e
