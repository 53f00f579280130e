use Rattle.std.proofs.Common.{◌+◌, ◌<◌, map, take, length, ap, ◌∙◌, sym, Some, None, arith, Bor, Global}
use Rattle.std.specs.declared.rc.Rc.{Rc}
use Rattle.std.proofs.lemmas.List.{length-map}
use Rattle.sml_lex.specs.declared.fault.Code.TheVariants.{E3}
use Rattle.sml_tree.specs.Views.{ident_of, long_of}
use Rattle.sml_core_rules.specs.Answers.{need}
use Rattle.sml_core_rules.specs.Objects.{find_structure, structures}
use Rattle.sml_bases.specs.Views.{env_of}
use Rattle.sml_bases.specs.declared.objects.Env.{Env}
use Rattle.sml_types.specs.Answered.{env_at}
use Rattle.sml_types.proofs.Entries.{structure-read}
use Rattle.sml_types.proofs.Paths.{leads-nowhere, path-on, path-stops, path-ends, stands, within}
use Rattle.sml_types.proofs.scope.at_path.Goals as goal

pub returns-in_default : goal.returns-in_default
returns-in_default g c = λ C tells.
    let xs = c.args.long.now.path.items in
    let some : 0 < length xs = let l = c.args.long.now.path.ok.0 in let r = c.requires in omega (arith, l, r) in
    let x = c.index.result.now in
    leads-nowhere (λ (e : Bor (Rc Env Global)). env_of e.now.value) E3 c.args.long.now.place (long_of c.args.long.now) (take 1 (map ident_of xs)) (env_at C (map ident_of xs)) c.no_path.result
    (path-stops (λ E. Some E) 0 (map ident_of xs) (ident_of x) C (within xs 0 some) (stands xs 0 x some c.index.ensures) (sym (tells.structures_are (ident_of x) None c.in_default.ensures)))
    c.no_path.ensures

pub loop-index-init : goal.loop-index-init
loop-index-init g c = λ C tells.
    let xs = c.args.long.now.path.items in
    let some : 0 < length xs = let l = c.args.long.now.path.ok.0 in let r = c.requires in omega (arith, l, r) in
    let x = c.index.result.now in
    sym (path-on (λ E. Some E) 0 (map ident_of xs) (ident_of x) C (env_of c.in-Some.first.now.value) (within xs 0 some) (stands xs 0 x some c.index.ensures)
    (sym (tells.structures_are (ident_of x) (Some (env_of c.in-Some.first.now.value)) c.in-Some.ensures)))

pub returns-in-None : goal.returns-in-None
returns-in-None g c = λ C tells.
    let xs = c.args.long.now.path.items in
    let i = c.loop-index.index in
    let some : i < length xs = let l = c.args.long.now.path.ok.0 in omega (arith, l) in
    let s = c.index-in-loop-index.result.now in
    let none = structure-read c.deref.result.now s None c.in-None.ensures.value ∙ ap (λ e. find_structure (ident_of s) (structures (env_of e))) c.deref.ensures in
    leads-nowhere (λ (e : Bor (Rc Env Global)). env_of e.now.value) E3 c.args.long.now.place (long_of c.args.long.now) (take (i + 1) (map ident_of xs)) (env_at C (map ident_of xs)) c.no_path-in-None.result
    (sym (c.loop-index.invariant C tells) ∙ path-stops (λ E. Some E) i (map ident_of xs) (ident_of s) (env_of c.loop-index.env.now.value) (within xs i some) (stands xs i s some c.index-in-loop-index.ensures) (sym none))
    c.no_path-in-None.ensures

pub loop-index-preserved : goal.loop-index-preserved
loop-index-preserved g c = λ C tells.
    let xs = c.args.long.now.path.items in
    let i = c.loop-index.index in
    let some : i < length xs = let l = c.args.long.now.path.ok.0 in omega (arith, l) in
    let s = c.index-in-loop-index.result.now in
    let next = c.in-Some-get.next in
    let there = structure-read c.deref.result.now s (Some next) c.in-Some-get.ensures.value ∙ ap (λ e. find_structure (ident_of s) (structures (env_of e))) c.deref.ensures in
    sym (path-on (λ E. Some E) i (map ident_of xs) (ident_of s) (env_of c.loop-index.env.now.value) (env_of next.now.value) (within xs i some) (stands xs i s some c.index-in-loop-index.ensures) (sym there))
    ∙ c.loop-index.invariant C tells

pub returns : goal.returns
returns g c = λ C tells.
    ap (need E3 c.args.long.now.place (long_of c.args.long.now))
    (sym (c.loop-index.invariant C tells)
    ∙ path-ends (λ E. Some E) c.loop-index.index _ _ (let n = length-map c.args.long.now.path.items ident_of in let l = c.args.long.now.path.ok.0 in omega (arith, n, l)))
