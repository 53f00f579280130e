-- The steps of the reader, on the left parts that it holds.
use Rattle.std.proofs.Common.{◌≡◌, ◌≢◌, ◌⊎◌, inl, inr, Option, Some, None, MatchOption, ℕ, suc, zero, ◌+◌, ◌<◌, Bool, true, false, List, [], ◌∷◌, ◌++◌, length, take, drop, get_or, refl, sym, ap, ◌∙◌, arith, append_assoc, length-append}
use Rattle.std.proofs.lemmas.List.{append-nil, same_from_push, take-append-drop, drop_more, drop_all, length-take-le, take_at, nil_from_length}
use Rattle.sml_fixity.specs.declared.roles.Operator.{Operator}
use Rattle.sml_fixity.specs.declared.roles.Role.{Role}
use Rattle.sml_fixity.specs.declared.roles.Role.TheVariants.{Atom, Infix}
use Rattle.sml_fixity.specs.declared.sequences.Step.{Step}
use Rattle.sml_fixity.specs.declared.sequences.Step.TheVariants.{Push, Apply, Combine}
use Rattle.sml_fixity.specs.Infix.{Tree, Single, Applied, Joined, yield, postfix, EachOperator, level, side, StandsLeft, StandsRight, Obeys, EndsInOperator, StrayAt, NoneLooser, Clashes, MixedAt, NoTree, NoneBefore, IsTheTree}
use Rattle.sml_fixity.specs.CodeReader.{Frames, Bottom, Under, line, written, operators, Follows, Sound, AwaitsOperand, HasOperand, HasAtoms, ReadsBy, IsBuilt, Reducing, Reduced}
use Rattle.sml_fixity.proofs.Trees.{each_weaker, sound_roles, stray_no_tree, mixed_no_tree, same_tree, yield_ends, yield_some}

pub atoms_first : (roles : List Role) (steps : List Step) (pending : List Operator) (a : ℕ) → AwaitsOperand roles steps pending → HasAtoms (roles ++ Atom a ∷ []) (steps ++ Push a ∷ []) pending
atoms_first roles steps pending a r = record {
  has = record {
    frames = r.frames;
    tree = Single a;
    sound = r.sound;
    obeys = tt;
    follows = tt;
    roles_are = ap (λ (w : List Role). w ++ Atom a ∷ []) r.roles_are;
    steps_are = ap (λ (w : List Step). w ++ Push a ∷ []) r.steps_are;
    pending_are = r.pending_are;
  };
  atoms = tt;
}

pub atoms_next : (roles : List Role) (steps : List Step) (pending : List Operator) (a : ℕ) → HasAtoms roles steps pending → HasAtoms (roles ++ Atom a ∷ []) ((steps ++ Push a ∷ []) ++ Apply ∷ []) pending
atoms_next roles steps pending a h =
    let r = h.has in
    record {
      has = record {
        frames = r.frames;
        tree = Applied r.tree (Single a);
        sound = r.sound;
        obeys = (r.obeys, h.atoms, tt);
        follows = (r.follows, tt);
        roles_are =
            ap (λ (w : List Role). w ++ Atom a ∷ []) r.roles_are ∙ append_assoc (line r.frames) (yield r.tree) (Atom a ∷ []);
        steps_are =
            ap (λ (w : List Step). (w ++ Push a ∷ []) ++ Apply ∷ []) r.steps_are ∙ (simp append_assoc);
        pending_are = r.pending_are;
      };
      atoms = (h.atoms, tt);
    }

left_left : (q o p : Operator) → StandsLeft q o → StandsLeft o p → StandsLeft q p
left_left q o p h k = elim h [
  | inl l ↦ elim k [ inl m ↦ inl (omega arith) | inr m ↦ inl (omega arith) ]
  | inr l ↦ elim k [ inl m ↦ inl (omega arith) | inr m ↦ inr ((omega arith), l.1, m.2) ]
]

right_right : (q o p : Operator) → StandsRight q o → StandsRight o p → StandsRight q p
right_right q o p h k = elim h [
  | inl l ↦ elim k [ inl m ↦ inl (omega arith) | inr m ↦ inl (omega arith) ]
  | inr l ↦ elim k [ inl m ↦ inl (omega arith) | inr m ↦ inr ((omega arith), l.1, m.2) ]
]

right_left : (q o p : Operator) → StandsRight q o → StandsLeft o p → StandsRight q p
right_left q o p h k = elim h [
  | inl l ↦ elim k [ inl m ↦ inl (omega arith) | inr m ↦ inl (omega arith) ]
  | inr l ↦ elim k [ inl m ↦ inl (omega arith) | inr m ↦ cc ]
]

follows_left : (fs : Frames) (o p : Operator) → Follows fs o → StandsLeft o p → Follows fs p
follows_left Bottom o p h k = tt
follows_left (Under fs t q) o p h k = right_left q o p h k

follows_right : (fs : Frames) (o p : Operator) → Follows fs o → StandsRight o p → Follows fs p
follows_right Bottom o p h k = tt
follows_right (Under fs t q) o p h k = right_right q o p h k

Opened : Frames → List Operator → Operator → Type 0
Opened fs rest top = (gs : Frames) × (l : Tree) × (fs ≡ Under gs l top) × (rest ≡ operators gs)

opened : (fs : Frames) (rest : List Operator) (top : Operator) → rest ++ top ∷ [] ≡ operators fs → Opened fs rest top
unfolding Opened
opened Bottom rest top e =
    absurd (omega (arith, ap length e, length-append rest (top ∷ [])))
opened (Under gs l o) rest top e =
    let s = same_from_push rest (operators gs) top o e in
    (gs, l, ap (λ (w : Operator). Under gs l w) (sym s.1), s.0)

no_frames : (fs : Frames) → [] ≡ operators fs → fs ≡ Bottom
no_frames Bottom e = refl
no_frames (Under gs l o) e =
    absurd (omega (arith, ap length e, length-append (operators gs) (o ∷ [])))

combine_at : (fs : Frames) (t : Tree) (roles : List Role) (steps : List Step) (rest : List Operator) (top : Operator) (gs : Frames) (l : Tree) → fs ≡ Under gs l top → rest ≡ operators gs → Sound fs → Obeys t → EachOperator (Follows fs) t → roles ≡ line fs ++ yield t → steps ≡ written fs ++ postfix t → HasOperand roles (steps ++ Combine top.index ∷ []) rest
combine_at fs t roles steps rest top gs l e pe sound obeys follows ie se =
    let s = rw e at sound in
    let f = rw e at follows in
    record {
      frames = gs;
      tree = Joined top l t;
      sound = s.0;
      obeys = (s.1, obeys, s.2, f);
      follows =
          (s.3, each_weaker (StandsLeft top) (Follows gs) (λ p. follows_left gs top p s.3) l s.2, each_weaker (StandsRight top) (Follows gs) (λ p. follows_right gs top p s.3) t f);
      roles_are = rw e at ie ∙ (simp append_assoc);
      steps_are =
          ap (λ (w : List Step). w ++ Combine top.index ∷ []) (rw e at se) ∙ (simp append_assoc);
      pending_are = pe;
    }

pub combine : (roles : List Role) (steps : List Step) (rest : List Operator) (top : Operator) → HasOperand roles steps (rest ++ top ∷ []) → HasOperand roles (steps ++ Combine top.index ∷ []) rest
unfolding Opened
combine roles steps rest top r =
    let o = opened r.frames rest top r.pending_are in
    combine_at r.frames r.tree roles steps rest top o.0 o.1 o.2 o.3 r.sound r.obeys r.follows r.roles_are r.steps_are

pub reducing_start : (q : Operator) (roles : List Role) (steps : List Step) (pending : List Operator) → HasAtoms roles steps pending → Reducing q roles steps pending
reducing_start q roles steps pending h = record {
  has = h.has;
  left = each_weaker (λ _. ⊥) (StandsLeft q) (λ p b. absurd b) h.has.tree h.atoms;
}

pub reducing_step : (q : Operator) (roles : List Role) (steps : List Step) (rest : List Operator) (top : Operator) → Reducing q roles steps (rest ++ top ∷ []) → StandsLeft q top → Reducing q roles (steps ++ Combine top.index ∷ []) rest
unfolding Opened combine combine_at
reducing_step q roles steps rest top r h =
    let o = opened r.has.frames rest top r.has.pending_are in
    let s = rw o.2 at r.has.sound in
    record {
      has = combine roles steps rest top r.has;
      left =
          (h, each_weaker (StandsLeft top) (StandsLeft q) (λ p. left_left q top p h) o.1 s.2, r.left);
    }

pub reduced_stop : (q : Operator) (roles : List Role) (steps : List Step) (rest : List Operator) (top : Operator) → Reducing q roles steps (rest ++ top ∷ []) → StandsRight top q → Reduced q roles steps (rest ++ top ∷ [])
unfolding Opened
reduced_stop q roles steps rest top r h =
    let o = opened r.has.frames rest top r.has.pending_are in
    record { reducing = r; follows = rw o.2 h }

pub reduced_none : (q : Operator) (roles : List Role) (steps : List Step) → Reducing q roles steps [] → Reduced q roles steps []
reduced_none q roles steps r =
    let e = no_frames r.has.frames r.has.pending_are in
    record { reducing = r; follows = rw e tt }

NoneLooser-append : (p : Operator) (xs ys : List Role) → NoneLooser p xs → NoneLooser p ys → NoneLooser p (xs ++ ys)
NoneLooser-append p [] ys h k = k
NoneLooser-append p (Atom a ∷ xs) ys h k = NoneLooser-append p xs ys h k
NoneLooser-append p (Infix q ∷ xs) ys h k = (h.0, NoneLooser-append p xs ys h.1 k)

NoneLooser-yield : (p : Operator) (t : Tree) → EachOperator (StandsRight p) t → NoneLooser p (yield t)
NoneLooser-yield p (Single a) h = tt
NoneLooser-yield p (Applied f x) h =
    NoneLooser-append p (yield f) (yield x) (NoneLooser-yield p f h.0) (NoneLooser-yield p x h.1)
NoneLooser-yield p (Joined o l r) h =
    NoneLooser-append p (yield l) (Infix o ∷ yield r) (NoneLooser-yield p l h.1) (elim h.0 [ inl m ↦ omega arith | inr m ↦ omega arith ], NoneLooser-yield p r h.2)

pub clashes : (q : Operator) (roles : List Role) (steps : List Step) (rest : List Operator) (top : Operator) → Reducing q roles steps (rest ++ top ∷ []) → level top ≡ level q → side top ≢ side q → Clashes roles q
unfolding Opened
clashes q roles steps rest top r same other =
    let o = opened r.has.frames rest top r.has.pending_are in
    let follows = rw o.2 at r.has.follows in
    record {
      before = line o.0 ++ yield o.1;
      earlier = top;
      between = yield r.has.tree;
      split = rw o.2 at r.has.roles_are ∙ (simp append_assoc);
      same_level = same;
      other_side = other;
      none_looser = NoneLooser-yield top r.has.tree follows;
    }

pub operator_read : (q : Operator) (roles : List Role) (steps : List Step) (pending : List Operator) → Reduced q roles steps pending → AwaitsOperand (roles ++ Infix q ∷ []) steps (pending ++ q ∷ [])
operator_read q roles steps pending r =
    let h = r.reducing.has in
    record {
      frames = Under h.frames h.tree q;
      sound = (h.sound, h.obeys, r.reducing.left, r.follows);
      roles_are = ap (λ (w : List Role). w ++ Infix q ∷ []) h.roles_are ∙ (simp append_assoc);
      steps_are = h.steps_are;
      pending_are = ap (λ (w : List Operator). w ++ q ∷ []) h.pending_are;
    }

pub built : (roles : List Role) (steps : List Step) → HasOperand roles steps [] → IsBuilt roles steps
built roles steps h =
    let e = no_frames h.frames h.pending_are in
    record {
      tree = h.tree;
      built = rw e at h.steps_are;
      written_as = sym (rw e at h.roles_are);
      obeys = h.obeys;
    }

-- the whole tree, where the operand that is read last is t
close : Frames → Tree → Tree
close Bottom t = t
close (Under fs l o) t = close fs (Joined o l t)

close-obeys : (fs : Frames) (t : Tree) → Sound fs → Obeys t → EachOperator (Follows fs) t → Obeys (close fs t)
unfolding close
close-obeys Bottom t s h f = h
close-obeys (Under fs l o) t s h f =
    close-obeys fs (Joined o l t) s.0 (s.1, h, s.2, f) (s.3, each_weaker (StandsLeft o) (Follows fs) (λ p. follows_left fs o p s.3) l s.2, each_weaker (StandsRight o) (Follows fs) (λ p. follows_right fs o p s.3) t f)

close-yield : (fs : Frames) (t : Tree) → yield (close fs t) ≡ line fs ++ yield t
unfolding close
close-yield Bottom t = refl
close-yield (Under fs l o) t = close-yield fs (Joined o l t) ∙ (simp append_assoc)

-- some tree that obeys begins with the roles
pub record Begins (roles : List Role) : Type 0 where
  pub tree : Tree
  pub more : List Role
  pub obeys : Obeys tree
  pub written_as : yield tree ≡ roles ++ more

pub begins : (b : Bool) (roles : List Role) (steps : List Step) (pending : List Operator) → ReadsBy b roles steps pending → Begins roles
begins true roles steps pending h = record {
  tree = close h.has.frames h.has.tree;
  more = [];
  obeys = close-obeys h.has.frames h.has.tree h.has.sound h.has.obeys h.has.follows;
  written_as = close-yield h.has.frames h.has.tree ∙ sym h.has.roles_are ∙ sym (append-nil roles);
}
begins false roles steps pending h = record {
  tree = close h.frames (Single 0);
  more = Atom 0 ∷ [];
  obeys = close-obeys h.frames (Single 0) h.sound tt tt;
  written_as = close-yield h.frames (Single 0) ∙ ap (λ (w : List Role). w ++ Atom 0 ∷ []) (sym h.roles_are);
}

take_split : (before : List Role) (x : Role) (after : List Role) (i : ℕ) → length before < i → (rest : List Role) × (take i (before ++ x ∷ after) ≡ before ++ x ∷ rest)
take_split before x after zero h = absurd (omega arith)
take_split [] x after (suc i) h = (take i after, refl)
take_split (y ∷ before) x after (suc i) h =
    let r = take_split before x after i (omega arith) in
    (r.0, ap (λ (w : List Role). y ∷ w) r.1)

take_front : (roles before after : List Role) (x : Role) (i k : ℕ) → roles ≡ before ++ x ∷ after → length before ≡ k → k < i → (rest : List Role) × (take i roles ≡ before ++ x ∷ rest)
take_front roles before after x i k e p h =
    let r = take_split before x after i (omega arith) in
    (r.0, ap (λ (w : List Role). take i w) e ∙ r.1)

stray_in_front : (roles more : List Role) (i k : ℕ) → i < length roles → k < i → StrayAt roles k → StrayAt (take i roles ++ more) k
stray_in_front roles more i k l h s =
    let r = take_front roles s.before s.after (Infix s.operator) i k s.split s.place_is h in
    record {
      before = s.before;
      operator = s.operator;
      after = r.0 ++ more;
      split = ap (λ (w : List Role). w ++ more) r.1 ∙ append_assoc s.before (Infix s.operator ∷ r.0) more;
      place_is = s.place_is;
      stray =
          elim s.stray [
            | inl e ↦ inl e
            | inr d ↦ elim d [
              | inl e ↦ absurd (omega (arith, ap length s.split, ap length e, s.place_is, length-append s.before (Infix s.operator ∷ s.after)))
              | inr e ↦ inr (inr e)
            ]
          ];
    }

mixed_in_front : (roles more : List Role) (i k : ℕ) → k < i → MixedAt roles k → MixedAt (take i roles ++ more) k
mixed_in_front roles more i k h s =
    let r = take_front roles s.before s.after (Infix s.operator) i k s.split s.place_is h in
    record {
      before = s.before;
      operator = s.operator;
      after = r.0 ++ more;
      split = ap (λ (w : List Role). w ++ more) r.1 ∙ append_assoc s.before (Infix s.operator ∷ r.0) more;
      place_is = s.place_is;
      clash = s.clash;
    }

-- what is read has no fault in it
pub none_before : (roles : List Role) (i : ℕ) → i < length roles → Begins (take i roles) → NoneBefore roles i
none_before roles i l b = λ k h.
    let s = sound_roles b.tree (take i roles ++ b.more) b.obeys b.written_as k in
    (λ w. s.0 (stray_in_front roles b.more i k l h w), λ w. s.1 (mixed_in_front roles b.more i k h w))

role_splits : (roles : List Role) (i : ℕ) (q : Operator) → i < length roles → get_or roles i (Atom 0) ≡ Infix q → roles ≡ take i roles ++ Infix q ∷ drop (i + 1) roles
role_splits roles i q l e =
    sym (take-append-drop i roles) ∙ ap (λ (w : List Role). take i roles ++ w) (drop_more roles i (Atom 0) l ∙ ap (λ (w : Role). w ∷ drop (i + 1) roles) e)

ends : (fs : Frames) (roles : List Role) → roles ≡ line fs → (roles ≡ []) ⊎ EndsInOperator roles
ends Bottom roles e = inl e
ends (Under fs l o) roles e = inr (line fs ++ yield l, o, e ∙ (simp append_assoc))

module _ (roles : List Role) (i : ℕ) (q : Operator) (within : i < length roles) (role : get_or roles i (Atom 0) ≡ Infix q) (steps : List Step) (pending : List Operator) where
  pub stray_awaiting : AwaitsOperand (take i roles) steps pending → StrayAt roles i
  stray_awaiting r = record {
    before = take i roles;
    operator = q;
    after = drop (i + 1) roles;
    split = role_splits roles i q within role;
    place_is = length-take-le i roles (omega arith);
    stray = elim (ends r.frames (take i roles) r.roles_are) [ inl e ↦ inl e | inr e ↦ inr (inr e) ];
  }

  pub stray_last : i + 1 ≡ length roles → StrayAt roles i
  stray_last e = record {
    before = take i roles;
    operator = q;
    after = drop (i + 1) roles;
    split = role_splits roles i q within role;
    place_is = length-take-le i roles (omega arith);
    stray = inr (inl (drop_all (i + 1) roles (omega arith)));
  }

  pub stray_fault : Begins (take i roles) → StrayAt roles i → StrayAt roles i × NoneBefore roles i × NoTree roles
  stray_fault b s = (s, none_before roles i within b, stray_no_tree roles i s)

  not_stray_after : (i + 1 ≡ length roles → ⊥) → HasOperand (take i roles) steps pending → StrayAt roles i → ⊥
  not_stray_after inner h s =
      let t = close h.frames h.tree in
      let front : take i roles ≡ s.before =
      ap (λ (w : List Role). take i w) s.split ∙ take_at s.before (Infix s.operator ∷ s.after) i s.place_is in
      let y : yield t ≡ s.before = close-yield h.frames h.tree ∙ sym h.roles_are ∙ front in
      elim s.stray [
        | inl e ↦ omega (arith, yield_some t, ap length y, ap length e)
        | inr d ↦ elim d [
          | inl e ↦ inner (omega (arith, ap length s.split, ap length e, s.place_is, length-append s.before (Infix s.operator ∷ s.after)))
          | inr e ↦ yield_ends t (e.0, e.1, y ∙ e.2)
        ]
      ]

  pub mixed_fault : (i + 1 ≡ length roles → ⊥) → HasAtoms (take i roles) steps pending → Clashes (take i roles) q → MixedAt roles i × (¬ StrayAt roles i) × NoneBefore roles i × NoTree roles
  mixed_fault inner h c =
      let m : MixedAt roles i = record {
        before = take i roles;
        operator = q;
        after = drop (i + 1) roles;
        split = role_splits roles i q within role;
        place_is = length-take-le i roles (omega arith);
        clash = c;
      } in
      (m, not_stray_after inner h.has, none_before roles i within (begins true (take i roles) steps pending h), mixed_no_tree roles i m)

pub the_tree : (roles : List Role) (steps : List Step) → IsBuilt roles steps → IsTheTree roles steps
the_tree roles steps b = record {
  tree = b.tree;
  built = b.built;
  written = b.written_as;
  obeys = b.obeys;
  only = λ u w o. same_tree u b.tree o b.obeys (w ∙ sym b.written_as);
}

-- a `pop` that gave nothing
pub popped_none : (r : Option Operator) (xs ys : List Operator) (n m : ℕ) → ((x : Operator) → r ≡ Some x → ⊥) → MatchOption r ((n ≡ 0) × (m ≡ 0)) (λ _. m + 1 ≡ n) → n ≡ length xs → m ≡ length ys → (xs ≡ []) × (ys ≡ [])
popped_none None xs ys n m h c e f =
    (nil_from_length xs (omega (arith, c.0)), nil_from_length ys (omega (arith, c.1)))
popped_none (Some x) xs ys n m h c e f = absurd (h x refl)
