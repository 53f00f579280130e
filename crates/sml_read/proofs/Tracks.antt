-- The last place up to which every declaration is whole.
use Rattle.std.proofs.Common.{◌≡◌, ℕ, ◌+◌, ◌-◌, ◌<◌, ◌≤◌, take, drop, length, get_or, List, [], ◌∷◌, ◌++◌, Bool, true, false, Option, Some, None, refl, sym, ap, ◌∙◌, subst, arith, append_assoc, ◌⊎◌, inl, inr, ltb}
use Rattle.std.specs.Option.{MatchOption}
use Rattle.std.proofs.Math.Seq.{take-add}
use Rattle.std.proofs.lemmas.List.{take_more, take_all, drop_more, take-append-le, length-append}
use Rattle.std.proofs.lemmas.Bool.{false≢true, ltb-true, ltb-false}
use Rattle.sml_lex.specs.declared.token.Kind.{Kind}
use Rattle.sml_read.specs.declared.grammar.Part.{Part}
use Rattle.sml_read.specs.declared.grammar.Part.TheVariants.{Start}
use Rattle.sml_read.specs.declared.grammar.Symbol.{Symbol}
use Rattle.sml_read.specs.declared.grammar.Symbol.TheVariants.{Of}
use Rattle.sml_read.specs.declared.grammar.Node.{Node}
use Rattle.sml_read.specs.declared.read.Cause.{Cause}
use Rattle.sml_read.specs.declared.read.Cause.TheVariants.{Unexpected, TooEarly, Lexical}
use Rattle.sml_read.specs.Spelling.{IsWholeTo, BeginsUnit, is_outer, is_closed, first_of, Leads}
use Rattle.sml_read.specs.CodeSteps.{Takes, Refuses, Completes, Blocks, ends_whole}
use Rattle.sml_read.specs.Answer.{IsCauseOf, IsReading}
use Rattle.sml_read.proofs.Trees.{Reaches, alone, reach_all, reach_more, completes_takes, reach_begins, reach_refused, unexpected_at, ends_early, whole_leads, whole_only, not_whole, whole_unit}

below : (p n : ℕ) → (p < n) ⊎ (n ≤ p)
below p n = by_test (ltb p n) refl
  where
    by_test : (b : Bool) → ltb p n ≡ b → (p < n) ⊎ (n ≤ p)
    by_test true e = inl (ltb-true _ _ e)
    by_test false e = inr (ltb-false _ _ e)

-- of the places before this one the last is begun, by these nodes
pub record Tracks (kinds : List Kind) (done : Bool) (place begun : ℕ) (nodes : List Node) : Type 0 where
  pub whole : IsWholeTo kinds done begun nodes
  pub only : (others : List Node) → IsWholeTo kinds done begun others → others ≡ nodes
  pub latest : (p : ℕ) (others : List Node) → p < place → IsWholeTo kinds done p others → p ≤ begun

start_closed : (next : Option Kind) → is_closed Start next ≡ true
start_closed None = refl
start_closed (Some k) = refl

pub track_start : (kinds : List Kind) (done : Bool) (nodes : List Node) → nodes ≡ [] → Tracks kinds done 0 0 nodes
track_start kinds done nodes e = subst (Tracks kinds done 0 0) (sym e) record {
  whole = record {
    within = omega arith;
    part = Start;
    outer = refl;
    closed = start_closed (first_of kinds);
    leads = refl;
    seen = inr (inr refl);
  };
  only = λ others w. (alone others Start w.part (first_of (drop 0 kinds)) refl w.leads).0;
  latest = λ p others l w. absurd (omega (arith, l));
}

next_at : (kinds : List Kind) (place : ℕ) (d : Kind) → place < length kinds → first_of (drop place kinds) ≡ Some (get_or kinds place d)
next_at kinds place d within = ap first_of (drop_more kinds place d within)

pub track_some : (kinds : List Kind) (done : Bool) (place begun : ℕ) (old nodes : List Node) (d : Kind) (now : List Symbol) (added : List Node) (part : Part) → place < length kinds → Reaches (Of Start ∷ []) (take place kinds) nodes now → Completes now (Some (get_or kinds place d)) added (Of part ∷ []) → is_outer part ≡ true → is_closed part (Some (get_or kinds place d)) ≡ true → Tracks kinds done (place + 1) place (nodes ++ added)
track_some kinds done place begun old nodes d now added part within x c o ends =
    let e = next_at kinds place d within in record {
      whole = record {
        within = omega (arith, within);
        part = part;
        outer = o;
        closed = subst (λ f. is_closed part f ≡ true) (sym e) ends;
        leads = subst (λ f. Leads (nodes ++ added) (Of Start ∷ []) (take place kinds) f (Of part ∷ [])) (sym e) (whole_leads (take place kinds) nodes now (Some (get_or kinds place d)) added part x c);
        seen = inl within;
      };
      only = λ others w. (whole_only (take place kinds) nodes now (Some (get_or kinds place d)) added part x c o others w.part (subst (λ f. Leads others (Of Start ∷ []) (take place kinds) f (Of w.part ∷ [])) e w.leads)).0;
      latest = λ p others l w. omega (arith, l);
    }

-- where nothing is whole
pub track_on : (kinds : List Kind) (done : Bool) (place begun : ℕ) (old : List Node) → ((others : List Node) → IsWholeTo kinds done place others → ⊥) → Tracks kinds done place begun old → Tracks kinds done (place + 1) begun old
track_on kinds done place begun old here t = record {
  whole = t.whole;
  only = t.only;
  latest = latest;
}
  where
    by_place : (p : ℕ) (others : List Node) → p < place + 1 → IsWholeTo kinds done p others → (p < place) ⊎ (place ≤ p) → p ≤ begun
    by_place p others h w (inl l) = t.latest p others l w
    by_place p others h w (inr l) =
        let e : p ≡ place = omega (arith, h, l) in
        absurd (here others (subst (λ q. IsWholeTo kinds done q others) e w))

    latest : (p : ℕ) (others : List Node) → p < place + 1 → IsWholeTo kinds done p others → p ≤ begun
    latest p others l w = by_place p others l w (below p place)

pub track_none : (kinds : List Kind) (done : Bool) (place begun : ℕ) (old nodes : List Node) (d : Kind) (now : List Symbol) → place < length kinds → Reaches (Of Start ∷ []) (take place kinds) nodes now → Blocks now (Some (get_or kinds place d)) → Tracks kinds done place begun old → Tracks kinds done (place + 1) begun old
track_none kinds done place begun old nodes d now within x b t =
    track_on kinds done place begun old (λ others w. not_whole (take place kinds) nodes now (Some (get_or kinds place d)) x b others w.part (subst (λ f. Leads others (Of Start ∷ []) (take place kinds) f (Of w.part ∷ [])) (next_at kinds place d within) w.leads)) t

pub track_open : (kinds : List Kind) (done : Bool) (place begun : ℕ) (old nodes : List Node) (d : Kind) (now : List Symbol) (added : List Node) (part : Part) → place < length kinds → Reaches (Of Start ∷ []) (take place kinds) nodes now → Completes now (Some (get_or kinds place d)) added (Of part ∷ []) → is_outer part ≡ true → is_closed part (Some (get_or kinds place d)) ≡ false → Tracks kinds done place begun old → Tracks kinds done (place + 1) begun old
track_open kinds done place begun old nodes d now added part within x c o ends t =
    track_on kinds done place begun old here t
  where
    here : (others : List Node) → IsWholeTo kinds done place others → ⊥
    here others w =
        let e = next_at kinds place d within in
        let same = (whole_only (take place kinds) nodes now (Some (get_or kinds place d)) added part x c o others w.part (subst (λ f. Leads others (Of Start ∷ []) (take place kinds) f (Of w.part ∷ [])) e w.leads)).1 in
        false≢true (sym ends ∙ subst (λ p. is_closed p (Some (get_or kinds place d)) ≡ true) (sym same) (subst (λ f. is_closed w.part f ≡ true) e w.closed))

-- where a token is refused
beyond : (kinds : List Kind) (place : ℕ) (d : Kind) (p : ℕ) → place < length kinds → place < p → take p kinds ≡ (take place kinds ++ get_or kinds place d ∷ []) ++ take (p - (place + 1)) (drop (place + 1) kinds)
beyond kinds place d p within l =
    ap (λ n. take n kinds) (omega (arith, l)) ∙ take-add (place + 1) (p - (place + 1)) kinds
    ∙ ap (λ x. x ++ take (p - (place + 1)) (drop (place + 1) kinds)) (take_more kinds place d within)

pub refused_at : (kinds : List Kind) (done : Bool) (place begun : ℕ) (old nodes : List Node) (d : Kind) (now : List Symbol) → place < length kinds → begun ≤ place → Reaches (Of Start ∷ []) (take place kinds) nodes now → Refuses now (get_or kinds place d) → Tracks kinds done (place + 1) begun old → IsReading kinds done old begun (Some (Unexpected place))
refused_at kinds done place begun old nodes d now within before x r t = record {
  whole = t.whole;
  last = last;
  only = t.only;
  fault = (before, within, unexpected_at kinds place d nodes now within x r);
}
  where
    over : (p : ℕ) (others : List Node) → place < p → IsWholeTo kinds done p others → ⊥
    over p others l w =
        reach_refused (Of Start ∷ []) (take place kinds) nodes now (get_or kinds place d) x r (take (p - (place + 1)) (drop (place + 1) kinds)) others (first_of (drop p kinds)) (Of w.part ∷ [])
        (subst (λ ts. Leads others (Of Start ∷ []) ts (first_of (drop p kinds)) (Of w.part ∷ [])) (beyond kinds place d p within l) w.leads)

    by_place : (p : ℕ) (others : List Node) → IsWholeTo kinds done p others → (p < place + 1) ⊎ (place + 1 ≤ p) → p ≤ begun
    by_place p others w (inl l) = t.latest p others l w
    by_place p others w (inr l) = absurd (over p others (omega (arith, l)) w)

    last : (p : ℕ) (others : List Node) → IsWholeTo kinds done p others → p ≤ begun
    last p others w = by_place p others w (below p (place + 1))

-- where all tokens are taken
drop_whole : (xs : List Kind) → drop (length xs) xs ≡ []
drop_whole [] = refl
drop_whole (x ∷ xs) = drop_whole xs

full_leads : (kinds : List Kind) (done : Bool) (others : List Node) (w : IsWholeTo kinds done (length kinds) others) → Leads others (Of Start ∷ []) kinds None (Of w.part ∷ [])
full_leads kinds done others w =
    subst (λ f. Leads others (Of Start ∷ []) kinds f (Of w.part ∷ [])) (ap first_of (drop_whole kinds))
    (subst (λ ts. Leads others (Of Start ∷ []) ts (first_of (drop (length kinds) kinds)) (Of w.part ∷ [])) (take_all (length kinds) kinds (omega arith)) w.leads)

full_whole : (kinds : List Kind) (done : Bool) (nodes : List Node) (part : Part) → is_outer part ≡ true → (done ≡ true) ⊎ (part ≡ Start) → Leads nodes (Of Start ∷ []) kinds None (Of part ∷ []) → IsWholeTo kinds done (length kinds) nodes
full_whole kinds done nodes part o seen h = record {
  within = omega arith;
  part = part;
  outer = o;
  closed = subst (λ f. is_closed part f ≡ true) (sym (ap first_of (drop_whole kinds))) refl;
  leads = subst (λ f. Leads nodes (Of Start ∷ []) (take (length kinds) kinds) f (Of part ∷ [])) (sym (ap first_of (drop_whole kinds)))
      (subst (λ ts. Leads nodes (Of Start ∷ []) ts None (Of part ∷ [])) (sym (take_all (length kinds) kinds (omega arith))) h);
  seen = inr seen;
}

-- all is whole
pub all_whole : (kinds : List Kind) (done : Bool) (nodes : List Node) (now : List Symbol) (added : List Node) (part : Part) (fault : Option Cause) → Reaches (Of Start ∷ []) kinds nodes now → Completes now None added (Of part ∷ []) → is_outer part ≡ true → (done ≡ true) ⊎ (part ≡ Start) → IsCauseOf kinds done (length kinds) fault → IsReading kinds done (nodes ++ added) (length kinds) fault
all_whole kinds done nodes now added part fault x c o seen f = record {
  whole = full_whole kinds done (nodes ++ added) part o seen (whole_leads kinds nodes now None added part x c);
  last = λ p others w. w.within;
  only = λ others w. (whole_only kinds nodes now None added part x c o others w.part (full_leads kinds done others w)).0;
  fault = f;
}

-- the last declaration isn't
part_whole : (kinds : List Kind) (done : Bool) (begun : ℕ) (old : List Node) (fault : Option Cause) → Tracks kinds done (length kinds) begun old → ((others : List Node) → IsWholeTo kinds done (length kinds) others → ⊥) → IsCauseOf kinds done begun fault → IsReading kinds done old begun fault
part_whole kinds done begun old fault t n f = record {
  whole = t.whole;
  last = last;
  only = t.only;
  fault = f;
}
  where
    by_place : (p : ℕ) (others : List Node) → IsWholeTo kinds done p others → (p < length kinds) ⊎ (length kinds ≤ p) → p ≤ begun
    by_place p others w (inl l) = t.latest p others l w
    by_place p others w (inr l) =
        let e : p ≡ length kinds = omega (arith, l, w.within) in
        absurd (n others (subst (λ q. IsWholeTo kinds done q others) e w))

    last : (p : ℕ) (others : List Node) → IsWholeTo kinds done p others → p ≤ begun
    last p others w = by_place p others w (below p (length kinds))

pub blocked : (kinds : List Kind) (done : Bool) (begun : ℕ) (old nodes : List Node) (now : List Symbol) (fault : Option Cause) → Reaches (Of Start ∷ []) kinds nodes now → Blocks now None → Tracks kinds done (length kinds) begun old → IsCauseOf kinds done begun fault → IsReading kinds done old begun fault
blocked kinds done begun old nodes now fault x b t f =
    part_whole kinds done begun old fault t (λ others w. not_whole kinds nodes now None x b others w.part (full_leads kinds done others w)) f

pub unseen : (kinds : List Kind) (begun : ℕ) (old nodes : List Node) (now : List Symbol) (added : List Node) (part : Part) (fault : Option Cause) → Reaches (Of Start ∷ []) kinds nodes now → Completes now None added (Of part ∷ []) → is_outer part ≡ true → (part ≡ Start → ⊥) → Tracks kinds false (length kinds) begun old → IsCauseOf kinds false begun fault → IsReading kinds false old begun fault
unseen kinds begun old nodes now added part fault x c o ne t f =
    part_whole kinds false begun old fault t not_here f
  where
    by_seen : (others : List Node) (w : IsWholeTo kinds false (length kinds) others) → (length kinds < length kinds) ⊎ (false ≡ true) ⊎ (w.part ≡ Start) → ⊥
    by_seen others w (inl l) = omega (arith, l)
    by_seen others w (inr (inl e)) = false≢true e
    by_seen others w (inr (inr e)) = ne ((whole_only kinds nodes now None added part x c o others w.part (full_leads kinds false others w)).1 ∙ e)

    not_here : (others : List Node) → IsWholeTo kinds false (length kinds) others → ⊥
    not_here others w = by_seen others w w.seen

-- what the reader keeps at a token, after what may be ended is
pub record Settles (kinds : List Kind) (done : Bool) (place begun count : ℕ) (nodes : List Node) : Type 0 where
  pub tracks : Tracks kinds done (place + 1) begun (take count nodes)
  pub counted : count ≤ length nodes
  pub before : begun ≤ place

settle_some : (kinds : List Kind) (done : Bool) (place begun count : ℕ) (nodes new : List Node) (d : Kind) (now mid : List Symbol) (added : List Node) (part : Part) → place < length kinds → Reaches (Of Start ∷ []) (take place kinds) nodes now → new ≡ nodes ++ added → Completes now (Some (get_or kinds place d)) added mid → mid ≡ Of part ∷ [] → is_outer part ≡ true → is_closed part (Some (get_or kinds place d)) ≡ true → begun ≡ place → count ≡ length new → Settles kinds done place begun count new
settle_some kinds done place begun count nodes new d now mid added part within x e c m o ends b n =
    subst (λ q. Settles kinds done place q count new) (sym b) record {
      tracks = subst (Tracks kinds done (place + 1) place) (sym (take_all count new (omega (arith, n)) ∙ e)) (track_some kinds done place 0 [] nodes d now added part within x (subst (Completes now (Some (get_or kinds place d)) added) m c) o ends);
      counted = omega (arith, n);
      before = omega arith;
    }

settle_old : (kinds : List Kind) (done : Bool) (place begun count : ℕ) (nodes new added : List Node) → new ≡ nodes ++ added → count ≤ length nodes → begun ≤ place → Tracks kinds done (place + 1) begun (take count nodes) → Settles kinds done place begun count new
settle_old kinds done place begun count nodes new added e n before t =
    let kept : take count new ≡ take count nodes = ap (take count) e ∙ take-append-le count nodes added n in
    record {
      tracks = subst (Tracks kinds done (place + 1) begun) (sym kept) t;
      counted = let l : length new ≡ length nodes + length added = ap length e ∙ length-append nodes added in omega (arith, l, n);
      before = before;
    }

-- what is left, where the symbols were completed
abbrev pub Leaves : List Symbol → Option Kind → List Symbol → Option Part → Type 0
Leaves now next mid left = MatchOption left (Blocks now next) (λ part. (mid ≡ Of part ∷ []) × (is_outer part ≡ true))

pub settle_whole : (kinds : List Kind) (done : Bool) (place begun count : ℕ) (nodes new : List Node) (d : Kind) (now mid : List Symbol) (added : List Node) (left : Option Part) → place < length kinds → Reaches (Of Start ∷ []) (take place kinds) nodes now → new ≡ nodes ++ added → Completes now (Some (get_or kinds place d)) added mid → Leaves now (Some (get_or kinds place d)) mid left → ends_whole left (get_or kinds place d) ≡ true → begun ≡ place → count ≡ length new → Settles kinds done place begun count new
settle_whole kinds done place begun count nodes new d now mid added None within x e c l ends b n = absurd (false≢true ends)
settle_whole kinds done place begun count nodes new d now mid added (Some part) within x e c l ends b n =
    settle_some kinds done place begun count nodes new d now mid added part within x e c l.0 l.1 ends b n

pub settle_open : (kinds : List Kind) (done : Bool) (place begun count : ℕ) (nodes new : List Node) (d : Kind) (now mid : List Symbol) (added : List Node) (left : Option Part) → place < length kinds → Reaches (Of Start ∷ []) (take place kinds) nodes now → new ≡ nodes ++ added → Completes now (Some (get_or kinds place d)) added mid → Leaves now (Some (get_or kinds place d)) mid left → ends_whole left (get_or kinds place d) ≡ false → count ≤ length nodes → begun ≤ place → Tracks kinds done place begun (take count nodes) → Settles kinds done place begun count new
settle_open kinds done place begun count nodes new d now mid added None within x e c l ends n before t =
    settle_old kinds done place begun count nodes new added e n before (track_none kinds done place begun (take count nodes) nodes d now within x l t)
settle_open kinds done place begun count nodes new d now mid added (Some part) within x e c l ends n before t =
    settle_old kinds done place begun count nodes new added e n before (track_open kinds done place begun (take count nodes) nodes d now added part within x (subst (Completes now (Some (get_or kinds place d)) added) l.0 c) l.1 ends t)

pub keeps : (count : ℕ) (nodes new added : List Node) → new ≡ nodes ++ added → count ≤ length nodes → (take count new ≡ take count nodes) × (count ≤ length new)
keeps count nodes new added e n =
    let l : length new ≡ length nodes + length added = ap length e ∙ length-append nodes added in
    (ap (take count) e ∙ take-append-le count nodes added n, omega (arith, l, n))

-- at the end
tracks_all : (kinds : List Kind) (done : Bool) (n begun : ℕ) (old : List Node) → length kinds ≤ n → Tracks kinds done n begun old → Tracks kinds done (length kinds) begun old
tracks_all kinds done n begun old all t = record {
  whole = t.whole;
  only = t.only;
  latest = λ p others l w. t.latest p others (omega (arith, l, all)) w;
}

begins_at : (kinds : List Kind) (nodes : List Node) (now : List Symbol) → Reaches (Of Start ∷ []) kinds nodes now → BeginsUnit kinds
begins_at kinds nodes now x =
    let b = reach_begins (Of Start ∷ []) kinds nodes now x in (b.0, (b.1, b.2))

pub too_early : (kinds : List Kind) (done : Bool) (n begun : ℕ) (old nodes : List Node) (now : List Symbol) → done ≡ true → length kinds ≤ n → Reaches (Of Start ∷ []) (take n kinds) nodes now → Blocks now None → Tracks kinds done n begun old → IsReading kinds done old begun (Some TooEarly)
too_early kinds done n begun old nodes now e all x b t =
    blocked kinds done begun old nodes now (Some TooEarly) here b (tracks_all kinds done n begun old all t) (e, within (below begun (length kinds)), ends_early kinds nodes now here b)
  where
    here : Reaches (Of Start ∷ []) kinds nodes now
    here = reach_all kinds n nodes now all x

    within : (begun < length kinds) ⊎ (length kinds ≤ begun) → begun < length kinds
    within (inl l) = l
    within (inr l) =
        let same : begun ≡ length kinds = omega (arith, l, t.whole.within) in
        let w : IsWholeTo kinds done (length kinds) old = subst (λ q. IsWholeTo kinds done q old) same t.whole in
        absurd (not_whole kinds nodes now None here b old w.part (full_leads kinds done old w))

pub lexical_blocked : (kinds : List Kind) (done : Bool) (n begun : ℕ) (old nodes : List Node) (now : List Symbol) → done ≡ false → length kinds ≤ n → Reaches (Of Start ∷ []) (take n kinds) nodes now → Blocks now None → Tracks kinds done n begun old → IsReading kinds done old begun (Some Lexical)
lexical_blocked kinds done n begun old nodes now e all x b t =
    let here = reach_all kinds n nodes now all x in
    blocked kinds done begun old nodes now (Some Lexical) here b (tracks_all kinds done n begun old all t) (e, t.whole.within, begins_at kinds nodes now here)

pub all_done : (kinds : List Kind) (done : Bool) (n : ℕ) (nodes new : List Node) (now mid : List Symbol) (added : List Node) (part : Part) → done ≡ true → length kinds ≤ n → Reaches (Of Start ∷ []) (take n kinds) nodes now → new ≡ nodes ++ added → Completes now None added mid → mid ≡ Of part ∷ [] → is_outer part ≡ true → IsReading kinds done new (length kinds) None
all_done kinds done n nodes new now mid added part e all x is c m o =
    let here = reach_all kinds n nodes now all x in
    let whole = subst (Completes now None added) m c in
    subst (λ ns. IsReading kinds done ns (length kinds) None) (sym is)
    (all_whole kinds done nodes now added part None here whole o (inl e) (e, refl, whole_unit kinds (nodes ++ added) part o (whole_leads kinds nodes now None added part here whole)))

pub lexical_whole : (kinds : List Kind) (done : Bool) (n : ℕ) (nodes new : List Node) (now mid : List Symbol) (added : List Node) (part : Part) → done ≡ false → part ≡ Start → length kinds ≤ n → Reaches (Of Start ∷ []) (take n kinds) nodes now → new ≡ nodes ++ added → Completes now None added mid → mid ≡ Of part ∷ [] → is_outer part ≡ true → IsReading kinds done new (length kinds) (Some Lexical)
lexical_whole kinds done n nodes new now mid added part e p all x is c m o =
    let here = reach_all kinds n nodes now all x in
    subst (λ ns. IsReading kinds done ns (length kinds) (Some Lexical)) (sym is)
    (all_whole kinds done nodes now added part (Some Lexical) here (subst (Completes now None added) m c) o (inr p) (e, omega arith, begins_at kinds nodes now here))

pub lexical_open : (kinds : List Kind) (done : Bool) (n begun : ℕ) (old nodes : List Node) (now mid : List Symbol) (added : List Node) (part : Part) → done ≡ false → (part ≡ Start → ⊥) → length kinds ≤ n → Reaches (Of Start ∷ []) (take n kinds) nodes now → Completes now None added mid → mid ≡ Of part ∷ [] → is_outer part ≡ true → Tracks kinds done n begun old → IsReading kinds done old begun (Some Lexical)
lexical_open kinds done n begun old nodes now mid added part e ne all x c m o t =
    let here = reach_all kinds n nodes now all x in
    subst (λ d. IsReading kinds d old begun (Some Lexical)) (sym e)
    (unseen kinds begun old nodes now added part (Some Lexical) here (subst (Completes now None added) m c) o ne (subst (λ d. Tracks kinds d (length kinds) begun old) e (tracks_all kinds done n begun old all t)) (refl, t.whole.within, begins_at kinds nodes now here))

pub reach_on : (kinds : List Kind) (place : ℕ) (d : Kind) (nodes mid new added more : List Node) (now half next : List Symbol) → place < length kinds → Reaches (Of Start ∷ []) (take place kinds) nodes now → mid ≡ nodes ++ added → Completes now (Some (get_or kinds place d)) added half → new ≡ mid ++ more → Takes half (get_or kinds place d) more next → Reaches (Of Start ∷ []) (take (place + 1) kinds) new next
reach_on kinds place d nodes mid new added more now half next within x e c f t =
    subst (λ ts. Reaches (Of Start ∷ []) ts new next) (sym (take_more kinds place d within))
    (subst (λ ns. Reaches (Of Start ∷ []) (take place kinds ++ get_or kinds place d ∷ []) ns next) (sym (f ∙ ap (λ ns. ns ++ more) e ∙ append_assoc nodes added more))
    (reach_more (Of Start ∷ []) (take place kinds) nodes now (get_or kinds place d) (added ++ more) next x (completes_takes now (get_or kinds place d) added half more next c t x.based)))
