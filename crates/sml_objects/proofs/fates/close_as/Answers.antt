use Rattle.std.proofs.Common.{◌≡◌, ap, sym, ◌∙◌, ◌+◌, take, ◌++◌, ◌∷◌, [], length, map, get_or, Bool, false, Option, Some, None, refl, arith, Vec, Global}
use Rattle.std.proofs.lemmas.List.{take_all, take_more, append-nil}
use Rattle.std.specs.declared.rc.Rc.{Rc}
use Rattle.sml_objects.specs.Fates.{attributes, substitutes, seen_type, standing_for}
use Rattle.sml_objects.specs.Initial.{Name, initial}
use Rattle.sml_objects.specs.Names.{int}
use Rattle.sml_objects.specs.Objects as O
use Rattle.sml_objects.specs.Sizes.{type_size}
use Rattle.sml_objects.specs.Types.{assign}
use Rattle.sml_objects.specs.Views.{type_of}
use Rattle.sml_objects.specs.declared.objects.MlType.{MlType}
use Rattle.sml_objects.specs.declared.fates.Fate.{Fate}
use Rattle.sml_objects.specs.declared.fates.Fate.TheVariants.{Bind, Keep, Default}
use Rattle.sml_objects.proofs.Renaming.{rename_type-id}
use Rattle.sml_objects.proofs.FatesOfVariables.{next-attributes, next-substitutes, closed-as, closed-size}
use Rattle.sml_objects.proofs.fates.close_as.Goals as goal
use Rattle.sml_objects.proofs.fates.close_as.Goals.{in-Bind+in_ok-next_bound-in-Bind+in_ok-push-in-Bind+in_ok-push-in-Bind-2, in-Keep+in_ok-push-in-Keep, in-Default+in_ok-default_type-in-Default+in_ok-push-in-Default}

pub loop-fate-preserved : goal.loop-fate-preserved
loop-fate-preserved c =
    let int = O.named (initial int) in
    let fs = c.args.fates.now in
    let n = c.loop-fate.fate-index in
    let bs = c.loop-fate.variables.items in
    let ts = c.loop-fate.types.items in
    let i = c.loop-fate.invariant in
    let more : (f : Fate) → get_or fs n (Bind false) ≡ f → take (n + 1) fs ≡ take n fs ++ f ∷ [] = λ f e. take_more fs n (Bind false) c.loop-fate-test.true ∙ ap (λ x. take n fs ++ x ∷ []) e in
    elim c.match-fate.branch [
      | in-Bind+in_ok-next_bound-in-Bind+in_ok-push-in-Bind+in_ok-push-in-Bind-2 w ↦
          let g = more (Bind w.in-Bind.equality) w.in-Bind.is in
          let k = ap length i.variables in let len : w.len.result ≡ length (attributes (take n fs)) = omega (arith, w.len.ensures, k) in
          record {
            variables = ap (λ (v : Vec Bool Global). v.items) w.variables-is ∙ (w.in_ok-push-in-Bind-2.ensures.items ∙ next-attributes (take n fs) (take (n + 1) fs) (Bind w.in-Bind.equality) bs i.variables g);
            types = ap (λ (v : Vec (Option (Rc MlType Global)) Global). map seen_type v.items) w.types-is ∙ next-substitutes int (take n fs) (take (n + 1) fs) (Bind w.in-Bind.equality) ts w.push.new.self.items w.len.result (Some w.in_ok-next_bound-in-Bind.field-0) i.types g w.in_ok-push-in-Bind.ensures.items len (ap (λ t. Some t ∷ []) w.in_ok-next_bound-in-Bind.ensures);
          }
      | in-Keep+in_ok-push-in-Keep w ↦
          let g = more Keep w.in-Keep.is in
          record {
            variables = ap (λ (v : Vec Bool Global). v.items) w.variables-is ∙ (sym (append-nil bs) ∙ next-attributes (take n fs) (take (n + 1) fs) Keep bs i.variables g);
            types = ap (λ (v : Vec (Option (Rc MlType Global)) Global). map seen_type v.items) w.types-is ∙ next-substitutes int (take n fs) (take (n + 1) fs) Keep ts w.push-in-Keep.new.self.items (length (attributes (take n fs))) None i.types g w.in_ok-push-in-Keep.ensures.items refl refl;
          }
      | in-Default+in_ok-default_type-in-Default+in_ok-push-in-Default w ↦
          let g = more Default w.in-Default.is in
          record {
            variables = ap (λ (v : Vec Bool Global). v.items) w.variables-is ∙ (sym (append-nil bs) ∙ next-attributes (take n fs) (take (n + 1) fs) Default bs i.variables g);
            types = ap (λ (v : Vec (Option (Rc MlType Global)) Global). map seen_type v.items) w.types-is ∙ next-substitutes int (take n fs) (take (n + 1) fs) Default ts w.push-in-Default.new.self.items (length (attributes (take n fs))) (Some w.in_ok-default_type-in-Default.field-0) i.types g w.in_ok-push-in-Default.ensures.items refl (ap (λ t. Some t ∷ []) w.in_ok-default_type-in-Default.ensures);
          }
    ]

pub returns-clause-scheme : goal.returns-clause-scheme
returns-clause-scheme c =
    let int = O.named (initial int) in
    let all : take c.loop-fate.fate-index c.args.fates.now ≡ c.args.fates.now = take_all c.loop-fate.fate-index c.args.fates.now (omega (arith, c.loop-fate-test.false)) in
    closed-as int c.args.fates.now c.loop-fate.variables.items (map seen_type c.loop-fate.types.items) c.args.places.now.keys (type_of c.args.ty.now) (type_of c.in_ok-body.body.value)
    (c.loop-fate.invariant.variables ∙ ap attributes all)
    (c.loop-fate.invariant.types ∙ ap (substitutes int 0) all)
    c.requires
    (c.in_ok-body.ensures ∙ (ap (assign (standing_for c.args.places.now.keys (map seen_type c.as_slice-types.result.now))) (rename_type-id (type_of c.args.ty.now)) ∙ ap (λ xs. assign (standing_for c.args.places.now.keys (map seen_type xs)) (type_of c.args.ty.now)) c.as_slice-types.ensures.value))

pub returns-clause-size : goal.returns-clause-size
returns-clause-size c =
    let int = O.named (initial int) in
    let all : take c.loop-fate.fate-index c.args.fates.now ≡ c.args.fates.now = take_all c.loop-fate.fate-index c.args.fates.now (omega (arith, c.loop-fate-test.false)) in
    ap (λ (s : O.Scheme Name). type_size s.body) (closed-as int c.args.fates.now c.loop-fate.variables.items (map seen_type c.loop-fate.types.items) c.args.places.now.keys (type_of c.args.ty.now) (type_of c.in_ok-body.body.value)
    (c.loop-fate.invariant.variables ∙ ap attributes all)
    (c.loop-fate.invariant.types ∙ ap (substitutes int 0) all)
    c.requires
    (c.in_ok-body.ensures ∙ (ap (assign (standing_for c.args.places.now.keys (map seen_type c.as_slice-types.result.now))) (rename_type-id (type_of c.args.ty.now)) ∙ ap (λ xs. assign (standing_for c.args.places.now.keys (map seen_type xs)) (type_of c.args.ty.now)) c.as_slice-types.ensures.value)))
    ∙ closed-size c.args.fates.now (type_of c.args.ty.now)
