use Rattle.std.proofs.Common.{◌≡◌, ◌+◌, ◌<◌, ℕ, map, take, length, ap, ◌∙◌, sym, Some, arith, get_or, Bor, List, Vec, Global}
use Rattle.std.specs.Option.{option_map}
use Rattle.std.specs.declared.rc.Rc.{Rc}
use Rattle.std.proofs.lemmas.List.{length-map, get_or-map}
use Rattle.sml_tree.specs.Views.{ident_of}
use Rattle.sml_objects.specs.declared.objects.Env.{Env}
use Rattle.sml_objects.specs.Views.{env_of}
use Rattle.sml_piece.proofs.Paths.{path_on, path_stops, path_ends}
use Rattle.sml_piece.proofs.Answering.{leads_nowhere}
use Rattle.sml_piece.proofs.lookups.Context.at_path.Goals as goal

-- the identifier at a place of a path
stands : (xs : List (Rc (Vec ℕ Global) Global)) (i : ℕ) (x : Rc (Vec ℕ Global) Global) → i < length xs → x ≡ get_or xs i x → get_or (map ident_of xs) i (ident_of x) ≡ ident_of x
stands xs i x h e = get_or-map ident_of xs i x (ident_of x) h ∙ ap ident_of (sym e)

within : (xs : List (Rc (Vec ℕ Global) Global)) (i : ℕ) → i < length xs → i < length (map ident_of xs)
within xs i h = let n = length-map xs ident_of in omega (arith, n, h)

pub returns-in_default : goal.returns-in_default
returns-in_default c = λ locals C shows.
    let xs = c.args.long.now.path.items in
    let some : 0 < length xs = let l = c.args.long.now.path.ok.0 in omega (arith, l) in
    leads_nowhere (λ (e : Bor Env). env_of e.now) C c.args.long.now.place (map ident_of xs) (take 1 (map ident_of xs)) c.no_path.result
    (λ pick.
    path_stops pick 0 (map ident_of xs) (ident_of c.index.result.now) C (within xs 0 some) (stands xs 0 c.index.result.now some c.index.ensures)
    (shows.structures_are (ident_of c.index.result.now) ∙ sym c.structure.ensures ∙ ap (option_map (λ (s : Bor (Rc Env Global)). env_of s.now.value)) c.in_default.is)) c.no_path.ensures

pub loop-index-init : goal.loop-index-init
loop-index-init c = λ locals C shows pick.
    let xs = c.args.long.now.path.items in
    let some : 0 < length xs = let l = c.args.long.now.path.ok.0 in omega (arith, l) in
    sym (path_on pick 0 (map ident_of xs) (ident_of c.index.result.now) C (env_of c.deref-env.result.now) (within xs 0 some) (stands xs 0 c.index.result.now some c.index.ensures)
    (shows.structures_are (ident_of c.index.result.now) ∙ sym c.structure.ensures ∙ ap (option_map (λ (s : Bor (Rc Env Global)). env_of s.now.value)) c.in-Some.is ∙ ap (λ e. Some (env_of e)) (sym c.deref-env.ensures)))

pub returns-in-None : goal.returns-in-None
returns-in-None c = λ locals C shows.
    let xs = c.args.long.now.path.items in
    let i = c.loop-index.index in
    let some : i < length xs = let l = c.args.long.now.path.ok.0 in omega (arith, l) in
    let s = c.index-in-loop-index.result.now in
    leads_nowhere (λ (e : Bor Env). env_of e.now) C c.args.long.now.place (map ident_of xs) (take (i + 1) (map ident_of xs)) c.no_path-in-None.result
    (λ pick. sym (c.loop-index.invariant locals C shows pick) ∙
    path_stops pick i (map ident_of xs) (ident_of s) _ (within xs i some) (stands xs i s some c.index-in-loop-index.ensures)
    (sym c.structure-in-loop-index.ensures ∙ ap (option_map (λ (s : Bor (Rc Env Global)). env_of s.now.value)) c.in-None.is)) c.no_path-in-None.ensures

pub loop-index-preserved : goal.loop-index-preserved
loop-index-preserved c = λ locals C shows pick.
    let xs = c.args.long.now.path.items in
    let i = c.loop-index.index in
    let some : i < length xs = let l = c.args.long.now.path.ok.0 in omega (arith, l) in
    let s = c.index-in-loop-index.result.now in
    sym (path_on pick i (map ident_of xs) (ident_of s) _ (env_of c.deref-env-in-Some-structure.result.now) (within xs i some) (stands xs i s some c.index-in-loop-index.ensures)
    (sym c.structure-in-loop-index.ensures ∙ ap (option_map (λ (s : Bor (Rc Env Global)). env_of s.now.value)) c.in-Some-structure.is ∙ ap (λ e. Some (env_of e)) (sym c.deref-env-in-Some-structure.ensures)))
    ∙ c.loop-index.invariant locals C shows pick

pub returns : goal.returns
returns c = λ locals C shows pick.
    sym (c.loop-index.invariant locals C shows pick)
    ∙ path_ends pick c.loop-index.index _ _ (let n = length-map c.args.long.now.path.items ident_of in let l = c.args.long.now.path.ok.0 in omega (arith, n, l))
