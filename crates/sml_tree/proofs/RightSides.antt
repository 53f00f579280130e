-- What right sides make of the heights of types in which their type constructors stand.
use Rattle.std.proofs.Common.{◌≡◌, ℕ, suc, ◌+◌, ◌<◌, max, min, List, [], ◌∷◌, Option, Some, None, Bool, true, false, cond, if◌then◌else◌, nat_eq, length, map, drop, get_or, refl, ap, sym, ◌∙◌, arith}
use Rattle.std.specs.Option.{option_map}
use Rattle.std.specs.Str.{bytes_eq}
use Rattle.sml_lex.specs.declared.fault.Place.{Place}
use Rattle.sml_tree.specs.Trees.{Id}
use Rattle.sml_tree.specs.Names as N
use Rattle.sml_tree.specs.Types as T
use Rattle.sml_tree.specs.Expressions as E
use Rattle.sml_tree.specs.Height.{counted}
use Rattle.sml_tree.specs.Heights.{ty_height, tys_height}
use Rattle.sml_tree.specs.Withtype.{count_tys, bound, binding, applied, instance, all_replaced}
use Rattle.sml_tree.specs.CodeDepths.{depth, without, depths, reached}
use Rattle.sml_tree.specs.CodeSides.{found, parts_of, side_of, KnowsSides}
use Rattle.sml_tree.specs.declared.sides.Side.{Side}
use Rattle.std.specs.Prelude.{Vec}
use Rattle.std.specs.Global.{Global}
use Rattle.std.specs.declared.rc.Rc.{Rc}
use Rattle.sml_tree.specs.Views.{ident_of}
use Rattle.sml_tree.specs.TypeViews.{long_name_of, ty_of, tys_of, ty_layer, ty_field_layer}
use Rattle.sml_tree.specs.declared.bare.LongIdent.{LongIdent}
use Rattle.sml_tree.specs.declared.types.Ty.{Ty}
use Rattle.sml_tree.specs.declared.types.Ty.TheViews as W
use Rattle.sml_tree.specs.declared.types.Ty.TheOpen as F
use Rattle.sml_tree.specs.declared.types.Ty.TheFolds.{fold-roll-Ty}
use Rattle.sml_tree.specs.declared.types.Ty.TheVariants as V
use Rattle.indexmap.specs.IndexMap.{insert_entry}
use Rattle.sml_tree.specs.BindingViews.{typ_bind_of}
use Rattle.sml_tree.specs.declared.expressions.TypBind.{TypBind}
use Rattle.sml_tree.proofs.Lists.{opened}
use Rattle.sml_tree.proofs.Tables.{given}
use Rattle.sml_tree.proofs.Instances.{instance_height}

depths_length : (f : Id → ℕ) (xs : List (N.Name Place)) → length (depths f xs) ≡ length xs
depths_length f [] = refl
depths_length f (x ∷ xs) = ap suc (depths_length (without x.id f) xs)

nat_eq_self : (n : ℕ) → nat_eq n n ≡ true
nat_eq_self n = grind arith

sided : (p : Place) (ts : T.Tys Place) (c : N.LongName Place) (b : E.TypBind Place) (h : ℕ) (ds : List ℕ) → (h, ds) ≡ parts_of b → count_tys ts ≡ length ds → counted (ty_height (applied p ts c (Some b))) ≡ max h (reached ds ts)
sided p ts c b h ds e n =
    let own : h ≡ counted (ty_height b.ty) = ap (λ z. z.0) e in
    let deep : ds ≡ depths (λ v. depth 0 v b.ty) b.variables = ap (λ z. z.1) e in
    let fits : nat_eq (length b.variables) (count_tys ts) ≡ true = ap (nat_eq (length b.variables)) (n ∙ ap length deep ∙ depths_length (λ v. depth 0 v b.ty) b.variables) ∙ nat_eq_self (length b.variables) in
    ap (λ t. counted (ty_height (if t then instance b.variables ts b.ty else T.ty_misapplied p ts c))) fits
    ∙ start (ty_height (instance b.variables ts b.ty)) (ty_height b.ty) _ (instance_height b.variables ts b.ty 0)
    ∙ sym (ap (λ m. max m (reached ds ts)) own ∙ ap (λ es. max (counted (ty_height b.ty)) (reached es ts)) deep)
  where
    start : (m n r : ℕ) → counted (0 + m) ≡ max (counted (0 + n)) r → counted m ≡ max (counted n) r
    start m n r e = omega (arith, e)

misfit : (p : Place) (ts : T.Tys Place) (c : N.LongName Place) (b : E.TypBind Place) (h : ℕ) (ds : List ℕ) → (h, ds) ≡ parts_of b → (count_tys ts ≡ length ds → ⊥) → ty_height (applied p ts c (Some b)) ≡ suc (tys_height ts)
misfit p ts c b h ds e n =
    let deep : ds ≡ depths (λ v. depth 0 v b.ty) b.variables = ap (λ z. z.1) e in
    let wrong : length b.variables ≡ count_tys ts → ⊥ = λ same. n (sym same ∙ sym (ap length deep ∙ depths_length (λ v. depth 0 v b.ty) b.variables)) in
    ap (λ t. ty_height (if t then instance b.variables ts b.ty else T.ty_misapplied p ts c)) (other (length b.variables) (count_tys ts) wrong)
  where
    other : (m k : ℕ) → (m ≡ k → ⊥) → nat_eq m k ≡ false
    other m k f = grind (arith, f)

-- where the table has a right side with as many variables
pub fits : (bs : List (E.TypBind Place)) (p : Place) (ts : T.Tys Place) (c : N.LongName Place) (s : Side) → c.id.path ≡ [] → option_map side_of (Some s) ≡ option_map parts_of (bound c.id.last bs) → count_tys ts ≡ length s.depths.items
    → counted (ty_height (applied p ts c (binding c.id.path c.id.last bs))) ≡ max s.height (reached s.depths.items ts)
fits bs p ts c s plain knows n =
    ap (λ path. counted (ty_height (applied p ts c (binding path c.id.last bs)))) plain ∙ on (bound c.id.last bs) knows
  where
    on : (o : Option (E.TypBind Place)) → Some (side_of s) ≡ option_map parts_of o → counted (ty_height (applied p ts c o)) ≡ max s.height (reached s.depths.items ts)
    on None e = absurd (cc)
    on (Some b) e = sided p ts c b s.height s.depths.items (let a : side_of s ≡ parts_of b = cc in a) n

-- where it has one with another number of variables
pub fits_not : (bs : List (E.TypBind Place)) (p : Place) (ts : T.Tys Place) (c : N.LongName Place) (s : Side) → c.id.path ≡ [] → option_map side_of (Some s) ≡ option_map parts_of (bound c.id.last bs) → (count_tys ts ≡ length s.depths.items → ⊥)
    → ty_height (applied p ts c (binding c.id.path c.id.last bs)) ≡ suc (tys_height ts)
fits_not bs p ts c s plain knows n =
    ap (λ path. ty_height (applied p ts c (binding path c.id.last bs))) plain ∙ on (bound c.id.last bs) knows
  where
    on : (o : Option (E.TypBind Place)) → Some (side_of s) ≡ option_map parts_of o → ty_height (applied p ts c o) ≡ suc (tys_height ts)
    on None e = absurd (cc)
    on (Some b) e = misfit p ts c b s.height s.depths.items (let a : side_of s ≡ parts_of b = cc in a) n

-- where it has none
pub fits_nowhere : (bs : List (E.TypBind Place)) (p : Place) (ts : T.Tys Place) (c : N.LongName Place) → c.id.path ≡ [] → None ≡ option_map parts_of (bound c.id.last bs)
    → ty_height (applied p ts c (binding c.id.path c.id.last bs)) ≡ suc (tys_height ts)
fits_nowhere bs p ts c plain knows =
    ap (λ path. ty_height (applied p ts c (binding path c.id.last bs))) plain ∙ on (bound c.id.last bs) knows
  where
    on : (o : Option (E.TypBind Place)) → None ≡ option_map parts_of o → ty_height (applied p ts c o) ≡ suc (tys_height ts)
    on None e = refl
    on (Some b) e = absurd (cc)

-- after a path
pub pathed : (bs : List (E.TypBind Place)) (p : Place) (ts : T.Tys Place) (c : N.LongName Place) → (c.id.path ≡ [] → ⊥) → ty_height (applied p ts c (binding c.id.path c.id.last bs)) ≡ suc (tys_height ts)
pathed bs p ts c far = on c.id.path far
  where
    on : (path : List Id) → (path ≡ [] → ⊥) → ty_height (applied p ts c (binding path c.id.last bs)) ≡ suc (tys_height ts)
    on [] f = absurd (f refl)
    on (s ∷ path) f = refl

pub no_path : (path : List (Rc (Vec ℕ Global) Global)) → length path ≡ 0 → map ident_of path ≡ []
no_path [] e = refl
no_path (s ∷ path) e = absurd (omega (arith, e))

pub all_replaced_count : (bs : List (E.TypBind Place)) (us : List Ty) → count_tys (all_replaced bs (tys_of (map ty_of us))) ≡ length us
all_replaced_count bs [] = refl
all_replaced_count bs (u ∷ us) = ap suc (all_replaced_count bs us)

pub ty_of-constructor : (p : Place) (ts : Vec Ty Global) (c : LongIdent) → ty_of (W.Constructor p ts c) ≡ T.ty_constructor p (tys_of (map ty_of ts.items)) (long_name_of c)
ty_of-constructor p ts c = ap ty_of (sym (V.rolls-Constructor p ts c)) ∙ fold-roll-Ty (T.Ty Place) (T.TyField Place) ty_layer ty_field_layer (F.Constructor p ts c)

-- one right side more
pub known_on : (xs : List TypBind) (i n : ℕ) (b : TypBind) (es new : List (Rc (Vec ℕ Global) Global × Side)) (k : Rc (Vec ℕ Global) Global) (s : Side) → n ≡ i + 1 → i < length xs → b ≡ get_or xs i b → side_of s ≡ parts_of (typ_bind_of b) → new ≡ insert_entry (λ p q. bytes_eq (ident_of p) (ident_of q)) es k s → ident_of k ≡ ident_of b.name.ident
    → KnowsSides (map typ_bind_of (drop n xs)) es → KnowsSides (map typ_bind_of (drop i xs)) new
known_on xs i n b es new k s next within e made inserted same knows c =
    ap (λ z. option_map side_of (found c z)) inserted
    ∙ ap (option_map side_of) (given ident_of c es k s ∙ ap (λ z. cond (bytes_eq c z) (Some s) (found c es)) same)
    ∙ on (bytes_eq c (ident_of b.name.ident))
    ∙ sym (ap (λ ys. option_map parts_of (bound c (map typ_bind_of ys))) (opened xs i b within e))
  where
    on : (t : Bool) → option_map side_of (cond t (Some s) (found c es)) ≡ option_map parts_of (if t then Some (typ_bind_of b) else bound c (map typ_bind_of (drop (i + 1) xs)))
    on true = ap Some made
    on false = knows c ∙ ap (λ j. option_map parts_of (bound c (map typ_bind_of (drop j xs)))) next

-- counts, as the code makes them

pub either_way : (n a h r : ℕ) → n ≡ max a h → a ≡ r → n ≡ max h r
either_way n a h r e f = omega (arith, e, f)

pub one_higher : (n a m : ℕ) → n ≡ min (a + 1) 4294967295 → a ≡ counted m → n ≡ counted (suc m)
one_higher n a m e f = omega (arith, e, f)
