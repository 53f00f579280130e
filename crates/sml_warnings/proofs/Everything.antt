-- Every shape of its type matches a pattern without constant, constructor or exception.
use Rattle.std.proofs.Common.{◌≡◌, ℕ, zero, suc, ◌+◌, Bool, true, false, ◌&&◌, if◌then◌else◌, List, [], ◌∷◌, ◌++◌, inl, inr, decimal, refl, ap, sym, subst}
use Rattle.std.specs.Str.{bytes_eq}
use Rattle.sml_lex.specs.declared.fault.Place.{Place}
use Rattle.sml_lex.specs.declared.fault.Warning.{Warning}
use Rattle.sml_tree.specs.Trees.{Id, LongId}
use Rattle.sml_tree.specs.Patterns.{Pat, Pats, PatFields, wildcard, pat_constant, pat_name, pat_row, pat_tuple, pat_bracket, pat_apply, pat_typed, pat_as, no_pat, and_pat, pat_field, no_pat_field, and_pat_field}
use Rattle.sml_narrowing.specs.Plain.{Plain, Wild, Made, Fields, Valued, Row, Labelled, field}
use Rattle.sml_patterns.specs.declared.names.Meaning.{Meaning}
use Rattle.sml_patterns.specs.declared.names.Meaning.TheVariants as M
use Rattle.sml_patterns.specs.declared.judge.Holder.{Holder}
use Rattle.sml_patterns.specs.declared.judge.Holder.TheVariants.{Fn, Handle, Val}
use Rattle.sml_patterns.specs.Shape.{Shape, Cut, OfConstructor, OfRow, OfValue, Other, Matches, World, Part, column, part_of, part_at, IsShape, Kind, Constructors, Labels, Values, Opaque, Fits, FitsKind}
use Rattle.sml_patterns.specs.Stands.{applied, long_text, StandsFor, TupleStandsFor, FieldsStandFor}
use Rattle.sml_patterns.specs.Warnings.{Rule, IsRedundant, IsOpen, IsOpenAt, IsWarning}
use Rattle.sml_patterns.proofs.Vectors.{some_shape, wild_matches}
use Rattle.sml_warnings.specs.Named.{is_variable, is_everything, are_everything, are_fields_everything}

-- every shape of its type matches it
abbrev pub MatchesAll : Plain → Type 0
MatchesAll q = (w : World) (d t : ℕ) (s : Shape) → Fits w d t q → IsShape w (part_of w d t) s → Matches q s

not_both : false ≡ true → ⊥
not_both h = cc

and_left : (a b : Bool) → a && b ≡ true → a ≡ true
and_left true b h = refl
and_left false b h = h

and_right : (a b : Bool) → a && b ≡ true → b ≡ true
and_right true b h = h
and_right false b h = absurd (not_both h)

wild-all : MatchesAll Wild
wild-all w d t s f i = tt

kind-all : (w : World) (d : ℕ) (r : Row) → ((l : Id) → MatchesAll (field l r)) → (k : Kind) (s : Shape) → FitsKind w (Fits w d) k (Fields r) → IsShape w (part_at d k) s → Matches (Fields r) s
kind-all w d r h (Constructors n g) s f i = absurd f
kind-all w d r h (Values g) s f i = absurd f
kind-all w d r h Opaque s f i = absurd f
kind-all w d r h (Labels g) Cut f i = absurd i
kind-all w d r h (Labels g) (OfConstructor k s) f i = absurd i
kind-all w d r h (Labels g) (OfRow v) f i = λ l. h l w d (g l) (v l) (f l) (i l)
kind-all w d r h (Labels g) (OfValue v s) f i = absurd i
kind-all w d r h (Labels g) Other f i = absurd i

row-all : (r : Row) → ((l : Id) → MatchesAll (field l r)) → MatchesAll (Fields r)
row-all r h w zero t s f i = absurd f
row-all r h w (suc d) t s f i = kind-all w d r h (w.kind t) s f i

either-all : (b : Bool) (p q : Plain) → MatchesAll p → MatchesAll q → MatchesAll (if b then p else q)
either-all true p q h g = h
either-all false p q h g = g

labelled-all : (k : Id) (p : Plain) (r : Row) → MatchesAll p → ((l : Id) → MatchesAll (field l r)) → (l : Id) → MatchesAll (field l (Labelled k p r))
labelled-all k p r h g l = either-all (bytes_eq l k) p (field l r) h (g l)

named-all : (m : Meaning) (x : Id) → is_variable m ≡ true → MatchesAll (applied m x Wild)
named-all M.Variable x e = wild-all
named-all M.Exception x e = absurd (not_both e)
named-all (M.Constructor k n) x e = absurd (not_both e)

module _ (N : LongId → Meaning) where
  mutual
    unfolding is_everything are_everything are_fields_everything

    pub all_matched : (p : Pat Place) (q : Plain) → StandsFor N p q → is_everything N p ≡ true → MatchesAll q
    all_matched (wildcard place) q h e = subst MatchesAll (sym h) wild-all
    all_matched (pat_constant place c) q h e = absurd (not_both e)
    all_matched (pat_name place x) q h e = subst MatchesAll (sym h) (named-all (N x.id) (long_text x.id) e)
    all_matched (pat_row place fs flexible) q h e = subst MatchesAll (sym h.2) (row-all h.0 (fields-all fs h.0 h.1 e))
    all_matched (pat_tuple place qs) q h e = subst MatchesAll (sym h.2) (row-all h.0 (tuple-all 1 qs h.0 h.1 e))
    all_matched (pat_bracket place p) q h e = all_matched p q h e
    all_matched (pat_apply place x p) q h e = absurd (not_both e)
    all_matched (pat_typed place p ty) q h e = all_matched p q h e
    all_matched (pat_as place x ty p) q h e = all_matched p q h e

    tuple-all : (k : ℕ) (ps : Pats Place) (r : Row) → TupleStandsFor N k ps r → are_everything N ps ≡ true → (l : Id) → MatchesAll (field l r)
    tuple-all k no_pat r h e = λ l. subst (λ s. MatchesAll (field l s)) (sym h) wild-all
    tuple-all k (and_pat p ps) r h e = λ l.
        subst (λ s. MatchesAll (field l s)) (sym h.4)
        (labelled-all (decimal k) h.0 h.1 (all_matched p h.0 h.2 (and_left (is_everything N p) (are_everything N ps) e)) (tuple-all (k + 1) ps h.1 h.3 (and_right (is_everything N p) (are_everything N ps) e)) l)

    fields-all : (fs : PatFields Place) (r : Row) → FieldsStandFor N fs r → are_fields_everything N fs ≡ true → (l : Id) → MatchesAll (field l r)
    fields-all no_pat_field r h e = λ l. subst (λ s. MatchesAll (field l s)) (sym h) wild-all
    fields-all (and_pat_field (pat_field x p) fs) r h e = λ l.
        let u = h.2 in
        subst (λ s. MatchesAll (field l s)) (sym u.2)
        (labelled-all x.id u.0 h.0 (all_matched p u.0 u.1 (and_left (is_everything N p) (are_fields_everything N fs) e)) (fields-all fs h.0 h.1 (and_right (is_everything N p) (are_fields_everything N fs) e)) l)

-- some shape of this kind matches it
abbrev SomeMatch : World → Part → Plain → Type 0
SomeMatch w c q = (s : Shape) × IsShape w c s × Matches q s

kind-some : (w : World) (d : ℕ) → ((t : ℕ) (q : Plain) → Fits w d t q → SomeMatch w (part_of w d t) q) → (k : Kind) → ((s : Shape) × IsShape w (part_at d k) s) → (q : Plain) → FitsKind w (Fits w d) k q → SomeMatch w (part_at d k) q
kind-some w d rec (Constructors n g) s Wild f = (s.0, s.1, tt)
kind-some w d rec (Constructors n g) s (Made j m q) f =
    let u = rec (g j) q f.2 in
    (OfConstructor j u.0, (f.1, u.1), (refl, u.2))
kind-some w d rec (Constructors n g) s (Fields r) f = absurd f
kind-some w d rec (Constructors n g) s (Valued v q) f = absurd f
kind-some w d rec (Labels g) s Wild f = (s.0, s.1, tt)
kind-some w d rec (Labels g) s (Made j m q) f = absurd f
kind-some w d rec (Labels g) s (Fields r) f =
    (OfRow (λ l. (rec (g l) (field l r) (f l)).0), (λ l. (rec (g l) (field l r) (f l)).1), (λ l. (rec (g l) (field l r) (f l)).2))
kind-some w d rec (Labels g) s (Valued v q) f = absurd f
kind-some w d rec (Values g) s Wild f = (s.0, s.1, tt)
kind-some w d rec (Values g) s (Made j m q) f = absurd f
kind-some w d rec (Values g) s (Fields r) f = absurd f
kind-some w d rec (Values g) s (Valued v q) f =
    let u = rec (g v) q f.1 in
    (OfValue v u.0, (f.0, u.1), (refl, u.2))
kind-some w d rec Opaque s Wild f = (s.0, s.1, tt)
kind-some w d rec Opaque s (Made j m q) f = absurd f
kind-some w d rec Opaque s (Fields r) f = absurd f
kind-some w d rec Opaque s (Valued v q) f = absurd f

some_match : (w : World) (d t : ℕ) (q : Plain) → Fits w d t q → SomeMatch w (part_of w d t) q
some_match w zero t q f = (Cut, tt, wild_matches q Cut f)
some_match w (suc d) t q f = kind-some w d (some_match w d) (w.kind t) (some_shape w (suc d) t) q f

first : Rule → List Rule → Rule
first d [] = d
first d (r ∷ rs) = r

rest : List Rule → List Rule
rest [] = []
rest (r ∷ rs) = rs

none : (above : List Rule) (r : Rule) (below : List Rule) → [] ≡ above ++ r ∷ below → ⊥
none [] r below e = cc
none (a ∷ above) r below e = cc

-- a rule that fits isn't redundant where it stands alone
not-redundant : (w : World) (d t : ℕ) (r : Rule) → Fits w d t r.plain → (above : List Rule) (q : Rule) (below : List Rule) → r ∷ [] ≡ above ++ q ∷ below → IsRedundant w (column d t) above q → ⊥
unfolding first rest
not-redundant w d t r fits [] q below e red =
    let s = some_match w d t r.plain fits in
    let same : r ≡ q = ap (first r) e in
    red s.0 s.1 (subst (λ x. Matches x.plain s.0) same s.2) tt
not-redundant w d t r fits (a ∷ above) q below e red = absurd (none above q below (ap rest e))

not-open : (w : World) (d t : ℕ) (r : Rule) → MatchesAll r.plain → Fits w d t r.plain → IsOpen w (column d t) (r ∷ []) → ⊥
not-open w d t r all fits o = o.2.0 (all w d t o.0 fits o.1)

not-open-at : (w : World) (d t : ℕ) (h : Holder) (r : Rule) (x : Warning) → MatchesAll r.plain → Fits w d t r.plain → IsOpenAt w (column d t) (r ∷ []) h x → ⊥
not-open-at w d t (Fn p) r x all fits o = not-open w d t r all fits o.1
not-open-at w d t (Handle p) r x all fits o = o
not-open-at w d t (Val p) r x all fits o = not-open w d t r all fits o.1

-- one rule that everything matches has no warning
pub no_warning : (w : World) (d t : ℕ) (h : Holder) (r : Rule) (x : Warning) → MatchesAll r.plain → Fits w d t r.plain → IsWarning w (column d t) h (r ∷ []) x → ⊥
no_warning w d t h r x all fits (inl y) = not-redundant w d t r fits y.0 y.1 y.2 y.3 y.5
no_warning w d t h r x all fits (inr y) = not-open-at w d t h r x all fits y

-- one rule after `handle` has none, and no rule has none
pub one_handles : (w : World) (d t : ℕ) (p : Place) (r : Rule) (x : Warning) → Fits w d t r.plain → IsWarning w (column d t) (Handle p) (r ∷ []) x → ⊥
one_handles w d t p r x fits (inl y) = not-redundant w d t r fits y.0 y.1 y.2 y.3 y.5
one_handles w d t p r x fits (inr y) = y

pub none_handles : (w : World) (d t : ℕ) (p : Place) (x : Warning) → IsWarning w (column d t) (Handle p) [] x → ⊥
none_handles w d t p x (inl y) = none y.0 y.1 y.2 y.3
none_handles w d t p x (inr y) = y
