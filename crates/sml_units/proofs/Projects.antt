-- Two runs of projects that are alike outside their seals.
use Rattle.std.specs.Prelude.{◌≡◌, ℕ, suc, List, [], ◌∷◌}
use mathlib.Core.Path.{refl, sym, ap₂, subst}
use mathlib.Core.List.{◌++◌, map}
use Rattle.std.specs.declared.cmp.Ordering.{Ordering}
use Rattle.std.specs.declared.cmp.Ordering.TheVariants.{Less, Equal, Greater}
use Rattle.sml_lex.specs.Faults.{Fault, first_place}
use Rattle.sml_lex.specs.declared.fault.Place.{Place}
use Rattle.sml_tree.specs.Trees as T
use Rattle.sml_tree.specs.Trees.{Id}
use Rattle.sml_objects.specs.Names.{Naming}
use Rattle.sml_objects.specs.Maps.{Map, put, join, by_order, order_of}
use Rattle.sml_objects.specs.Objects.{Scheme, Env, Structures, Sig, Basis, env, no_structure, and_structure, put_structure, join_structures, extend_env, Outside, rename_sig, names_type, names_sig, names_basis, names_env, names_map, names_structures}
use Rattle.sml_rules.specs.Answers.{Answer, refused, accepted}
use Rattle.sml_rules.specs.Readings.{read_top}
use Rattle.sml_rules.proofs.Renaming.{Fixes, fixes-left, fixes-right, fixed_sig}
use Rattle.sml_rules.proofs.Worlds.{Over}
use Rattle.sml_rules.proofs.Settled.{Covers, Supported, pair_supported, mapped, same_value, outside-left, outside-right, outside-append}
use Rattle.sml_rules.proofs.Readings.{sig_supported, basis_supported, extend_holds}
use Rattle.sml_texts.specs.Text.{text}
use Rattle.sml_units.specs.Runs.{SourceUnit, basis_after, Run, exports_after, exports, nothing, all_names, needed, start, RunProject}
use Rattle.sml_units.specs.Isolation.{AlikeOutsideSeals, AgreeAtSeals, EqualReplies, ProjectsAlike, ProjectsAgree, ProjectsReplyEqually}
use Rattle.sml_units.proofs.Seals.{cases_of, replies_stable, reads_alike, step}

fixed_exports : {N : Type 0} (f : N → N) (Ss : List (Sig N)) → Fixes f (all_names Ss) → map (rename_sig f) Ss ≡ Ss
unfolding all_names
fixed_exports f [] h = refl
fixed_exports f (S ∷ Ss) h =
    ap₂ ◌∷◌ (fixed_sig f S (fixes-left f (names_sig S) (all_names Ss) h)) (fixed_exports f Ss (fixes-right f (names_sig S) (all_names Ss) h))

abbrev exports_supported : Supported (λ N. List (Sig N))
exports_supported = record { rename = λ f Ss. map (rename_sig f) Ss; names = all_names; fixed = fixed_exports }

-- the names of an extension are those of its parts

by_cases : {X : Type 0} (P : X → Type 0) (o : Ordering) {a b c : X} → P a → P b → P c → P (by_order o a b c)
by_cases P Less p q r = p
by_cases P Equal p q r = q
by_cases P Greater p q r = r

put_names : {N : Type 0} (n : N) (x : Id) (v : Scheme N) (m : Map (Scheme N)) → Outside n (names_type v.body) → Outside n (names_map m) → Outside n (names_map (put x v m))
unfolding names_map Outside
put_names n x v [] h k = outside-append n (names_type v.body) [] h tt
put_names n x v (y ∷ m) h k =
    let own = outside-left n (names_type y.1.body) (names_map m) k in
    let others = outside-right n (names_type y.1.body) (names_map m) k in
    by_cases (λ m. Outside n (names_map m)) (order_of x y.0)
    (outside-append n (names_type v.body) (names_type y.1.body ++ names_map m) h k)
    (outside-append n (names_type v.body) (names_map m) h others)
    (outside-append n (names_type y.1.body) (names_map (put x v m)) own (put_names n x v m h others))

join_names : {N : Type 0} (n : N) (m k : Map (Scheme N)) → Outside n (names_map m) → Outside n (names_map k) → Outside n (names_map (join m k))
unfolding names_map
join_names n m [] h g = h
join_names n m (y ∷ k) h g =
    join_names n (put y.0 y.1 m) k (put_names n y.0 y.1 m (outside-left n (names_type y.1.body) (names_map k) g) h) (outside-right n (names_type y.1.body) (names_map k) g)

put_structure_names : {N : Type 0} (n : N) (s : Id) (E : Env N) (ss : Structures N) → Outside n (names_env E) → Outside n (names_structures ss) → Outside n (names_structures (put_structure s E ss))
unfolding names_env Outside
put_structure_names n s E no_structure h k = outside-append n (names_env E) [] h tt
put_structure_names n s E (and_structure s' F ss) h k =
    let own = outside-left n (names_env F) (names_structures ss) k in
    let others = outside-right n (names_env F) (names_structures ss) k in
    by_cases (λ ss. Outside n (names_structures ss)) (order_of s s')
    (outside-append n (names_env E) (names_env F ++ names_structures ss) h k)
    (outside-append n (names_env E) (names_structures ss) h others)
    (outside-append n (names_env F) (names_structures (put_structure s E ss)) own (put_structure_names n s E ss h others))

join_structure_names : {N : Type 0} (n : N) (ss rs : Structures N) → Outside n (names_structures ss) → Outside n (names_structures rs) → Outside n (names_structures (join_structures ss rs))
unfolding names_env
join_structure_names n ss no_structure h g = h
join_structure_names n ss (and_structure s E rs) h g =
    join_structure_names n (put_structure s E ss) rs (put_structure_names n s E ss (outside-left n (names_env E) (names_structures rs) g) h) (outside-right n (names_env E) (names_structures rs) g)

extend_names : {N : Type 0} (n : N) (E F : Env N) → Outside n (names_env E) → Outside n (names_env F) → Outside n (names_env (extend_env E F))
unfolding names_env
extend_names n (env ss ts vs) (env ss' ts' vs') h k =
    let hr = outside-right n (names_structures ss) (names_map ts ++ names_map vs) h in
    let kr = outside-right n (names_structures ss') (names_map ts' ++ names_map vs') k in
    outside-append n (names_structures (join_structures ss ss')) (names_map (join ts ts') ++ names_map (join vs vs'))
    (join_structure_names n ss ss' (outside-left n (names_structures ss) (names_map ts ++ names_map vs) h) (outside-left n (names_structures ss') (names_map ts' ++ names_map vs') k))
    (outside-append n (names_map (join ts ts')) (names_map (join vs vs'))
    (join_names n ts ts' (outside-left n (names_map ts) (names_map vs) hr) (outside-left n (names_map ts') (names_map vs') kr))
    (join_names n vs vs' (outside-right n (names_map ts) (names_map vs) hr) (outside-right n (names_map ts') (names_map vs') kr)))

export_names : {N : Type 0} (n : N) (S x : Sig N) → Outside n (names_sig S) → Outside n (names_sig x) → Outside n (names_sig (exports_after S (accepted x)))
unfolding names_sig
export_names n S x h k =
    outside-append n ((x.names ++ names_env x.body) ++ (S.names ++ names_env S.body)) (names_env (extend_env S.body x.body))
    (outside-append n (x.names ++ names_env x.body) (S.names ++ names_env S.body) k h)
    (extend_names n S.body x.body (outside-right n S.names (names_env S.body) h) (outside-right n x.names (names_env x.body) k))

-- what the basis covers, it covers after a declaration
cover_after : {N : Type 0} (ns : List N) (B : Basis N) (S : Sig N) (o : Answer Place (Sig N)) → Covers (names_basis B) (ns ++ names_sig S)
    → Covers (names_basis (basis_after B o)) (ns ++ names_sig (exports_after S o))
cover_after ns B S (refused f) cov = cov
cover_after ns B S (accepted x) cov = λ n h.
    let p : Outside n (names_basis B ++ names_sig x) = extend_holds B x n h in
    let q : Outside n (ns ++ names_sig S) = cov n (outside-left n (names_basis B) (names_sig x) p) in
    outside-append n ns (names_sig (exports_after S (accepted x))) (outside-left n ns (names_sig S) q)
    (export_names n S x (outside-right n ns (names_sig S) q) (outside-right n (names_basis B) (names_sig x) p))

module _ {F : Type 0 → Type 0} (S : Supported F) where
  abbrev State : Type 0 → Type 0
  State N = F N × Sig N

  by_refusal : {N : Type 0} (z : State N) (i j : Fault Place)
      → ◌≡◌ {A = State N} (z.0, exports_after z.1 (refused i)) (z.0, exports_after z.1 (refused j))
  by_refusal z i j = refl

  -- along two runs of a unit the bases, the exports and all that they stand beside stay alike
  runs_with : (unit : ℕ) (ds es : List (T.Dec Place)) (k : ℕ) {v w : Over (λ N. Basis N × State N)} → v ≡ w
      → Covers (names_basis v.2.0) (S.names v.2.1.0 ++ names_sig v.2.1.1)
      → (os : List (Answer Place (Sig v.0))) (qs : List (Answer Place (Sig w.0)))
      → Run v.1 unit v.2.0 ds os → Run w.1 unit w.2.0 es qs → AlikeOutsideSeals ds es → AgreeAtSeals ds es os qs
      → (Goal : Type 0) → (¬ (¬ Goal) → Goal)
      → (◌≡◌ {A = Over State} (v.0, v.1, (v.2.1.0, exports v.2.1.1 os)) (w.0, w.1, (w.2.1.0, exports w.2.1.1 qs)) → Goal)
      → EqualReplies v.1 w.1 k ds es os qs × Goal
  unfolding Run AlikeOutsideSeals AgreeAtSeals EqualReplies exports
  runs_with unit [] [] k p cov [] [] r r' h g Goal stable K =
      (tt, K (mapped {C = λ N. Basis N × State N} {D = State} (λ N a z. z.1) p))
  runs_with unit [] [] k p cov [] (q ∷ qs) r r' h g Goal stable K = absurd r'
  runs_with unit [] [] k p cov (o ∷ os) qs r r' h g Goal stable K = absurd r
  runs_with unit [] (e ∷ es) k p cov os qs r r' h g Goal stable K = absurd h
  runs_with unit (d ∷ ds) [] k p cov os qs r r' h g Goal stable K = absurd h
  runs_with unit (d ∷ ds) (e ∷ es) k p cov [] qs r r' h g Goal stable K = absurd r
  runs_with unit (d ∷ ds) (e ∷ es) k p cov (o ∷ os) [] r r' h g Goal stable K = absurd r'
  runs_with unit (d ∷ ds) (e ∷ es) k {v = v} {w = w} p cov (o ∷ os) (q ∷ qs) r r' h g Goal stable K =
      cases_of {A = d ≡ e}
      (λ n. (replies_stable v.1 w.1 k (d ∷ ds) (e ∷ es) (o ∷ os) (q ∷ qs) (λ m. n (λ x. m x.0)), stable (λ m. n (λ x. m x.1))))
      (λ same.
      let c = reads_alike {D = State} (pair_supported S sig_supported) unit d p cov r.0 (subst (λ x. read_top w.1 first_place unit w.2.0 x q) (sym same) r'.0) in
      let t : text v.1 k o ≡ text w.1 k q = same_value {C = λ N. (Basis N × State N) × Answer Place (Sig N)} (λ N a z. text a k z.1) c in
      let rest = runs_with unit ds es (suc k)
      (mapped {C = λ N. (Basis N × State N) × Answer Place (Sig N)} {D = λ N. Basis N × State N}
      (λ N a z. (basis_after z.0.0 z.1, (z.0.1.0, exports_after z.0.1.1 z.1))) c)
      (cover_after (S.names v.2.1.0) v.2.0 v.2.1.1 o cov) os qs r.1 r'.1 h.1 g.1 Goal stable K in
      ((λ _. t, λ _ _. t, rest.0), rest.1))
      (λ n.
      let c = step {D = State} (pair_supported S sig_supported) k unit d e p cov o q r.0 r'.0 h.0 n (g.0 n)
      State (λ N z o. (z.0, exports_after z.1 o)) (λ N z i j. by_refusal z i j) in
      let rest = runs_with unit ds es (suc k) c.1 (cover_after (S.names v.2.1.0) v.2.0 v.2.1.1 o cov) os qs r.1 r'.1 h.1 g.1 Goal stable K in
      ((λ same. absurd (n same), c.0, rest.0), rest.1))

start_covers : {N : Type 0} (B : Basis N) (Ss : List (Sig N)) (ks : List ℕ)
    → Covers (names_basis (start B Ss ks)) ((names_basis B ++ all_names Ss) ++ names_sig {N = N} nothing)
unfolding start names_basis names_sig names_env names_structures names_map Outside
start_covers B Ss ks n h =
    let o : Outside n (all_names Ss ++ (B.names ++ names_env B.body)) =
    outside-left n (all_names Ss ++ (B.names ++ names_env B.body)) (names_env (needed B Ss ks).body) h in
    outside-append n ((B.names ++ names_env B.body) ++ all_names Ss) []
    (outside-append n (B.names ++ names_env B.body) (all_names Ss)
    (outside-right n (all_names Ss) (B.names ++ names_env B.body) o) (outside-left n (all_names Ss) (B.names ++ names_env B.body) o)) tt

projects_stable : {M N : Type 0} (a : Naming M) (b : Naming N) (us ws : List SourceUnit)
    (oss : List (List (Answer Place (Sig M)))) (qss : List (List (Answer Place (Sig N))))
    → ¬ (¬ (ProjectsReplyEqually a b us ws oss qss)) → ProjectsReplyEqually a b us ws oss qss
unfolding ProjectsReplyEqually
projects_stable a b (u ∷ us) (w ∷ ws) (os ∷ oss) (qs ∷ qss) h = (
  replies_stable a b 1 u.declarations w.declarations os qs (λ n. h (λ x. n x.0)),
  projects_stable a b us ws oss qss (λ n. h (λ x. n x.1)),
)
projects_stable a b us ws oss qss h = tt

-- the initial basis and the exports so far
abbrev pub Exported : Type 0 → Type 0
Exported N = Basis N × List (Sig N)

pub projects_alike : (us ws : List SourceUnit) {v w : Over Exported} → v ≡ w
    → (oss : List (List (Answer Place (Sig v.0)))) (qss : List (List (Answer Place (Sig w.0))))
    → RunProject v.1 v.2.0 v.2.1 us oss → RunProject w.1 w.2.0 w.2.1 ws qss
    → ProjectsAlike us ws → ProjectsAgree us ws oss qss → ProjectsReplyEqually v.1 w.1 us ws oss qss
unfolding RunProject ProjectsAlike ProjectsAgree ProjectsReplyEqually
projects_alike [] ws p oss qss r r' h g = tt
projects_alike (u ∷ us) [] p oss qss r r' h g = tt
projects_alike (u ∷ us) (w ∷ ws) p [] qss r r' h g = tt
projects_alike (u ∷ us) (w ∷ ws) p (os ∷ oss) [] r r' h g = tt
projects_alike (x ∷ us) (y ∷ ws) {v = v} {w = w} p (os ∷ oss) (qs ∷ qss) r r' h g =
    runs_with {F = Exported} (pair_supported basis_supported exports_supported) x.maker x.declarations y.declarations 1
    (mapped {C = Exported} {D = λ N. Basis N × (Exported N × Sig N)} (λ N a z. (start z.0 z.1 x.needs, (z, nothing))) p)
    (start_covers v.2.0 v.2.1 x.needs) os qs
    r.0 (subst (λ m. Run w.1 m (start w.2.0 w.2.1 x.needs) y.declarations qs) (sym h.0.1) (subst (λ ks. Run w.1 y.maker (start w.2.0 w.2.1 ks) y.declarations qs) (sym h.0.2) r'.0)) h.0.4 g.0
    (ProjectsReplyEqually v.1 w.1 us ws oss qss) (projects_stable v.1 w.1 us ws oss qss)
    (λ q. projects_alike us ws
    (mapped {C = λ N. Exported N × Sig N} {D = Exported} (λ N a z. (z.0.0, z.0.1 ++ z.1 ∷ [])) q) oss qss r.1 r'.1 h.1 g.1)
