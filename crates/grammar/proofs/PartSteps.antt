-- A step among the parts that are due: the top entry is the first part due, and the record's own parts take its place.
use Prim.Native.Nat.{ℕ, zero, suc, ◌+◌, ◌-◌, ◌<◌, ◌≤◌}
use native.Mathlib.Nat.{add-zero}
use native.Mathlib.Omega.{arith}
use native.Mathlib.Decide.{dec_lt, ℕ_discrete}
use native.Mathlib.Numerals.{add-one, add-two}
use mathlib.Core.Path.{◌≡◌, refl, sym, ap, ◌∙◌, subst}
use mathlib.Core.Bool.{Bool, true, false, false≢true}
use mathlib.Core.List.{List, [], ◌∷◌, ◌++◌, map}
use Rattle.std.specs.Prelude.{min}
use lib.ListN.{length, get_or, set, replicate, length-set}
use lib.Seq.{get_or-set_same, get_or-set_other}
use borrow.Author.Tests.{lt-ltb, le-ltb}
use Rattle.rules.specs.Kind
use Rattle.rules.specs.Grammar as Grammar
use Rattle.rules.specs.Grammar.{Due, due_at, none_due, part_step}
use Rattle.grammar.specs.declared.due.Part.{Part}
use Rattle.grammar.specs.declared.due.Part.TheVariants.{TypeExpr, Condition, Operand}
use Rattle.grammar.specs.declared.due.Entry.{Entry}
use Rattle.grammar.specs.Parts.{part_in, part_of, due_of, none, dues, Sound}
use Rattle.grammar.specs.Due.{bare, is_first, Taken, room, deepened}
use Rattle.grammar.proofs.Stack.{dues-above, dues-top, sound-height}
use Rattle.grammar.proofs.Parts.{kind-uniform}

-- two stores from the top on, and as many of them due
pushed : (es : List Entry) (top : ℕ) (v : Entry) (n : ℕ) → top + 1 < length es → n ≤ 2
    → dues (set (set es top v) (top + 1) v) (top + n) ≡ map due_of (replicate n v) ++ dues es top
unfolding dues
pushed es top v zero h l =
    rw (add-zero, dues-above (set es top v) (top + 1) v top (omega arith), dues-above es top v top (omega arith))
pushed es top v (suc zero) h l =
    rw (
      add-one,
      get_or-set_other (set es top v) (suc top) top v none (omega arith),
      get_or-set_same es top v none (omega arith),
      dues-above (set es top v) (suc top) v top (omega arith),
      dues-above es top v top (omega arith),
    )
pushed es top v (suc (suc zero)) h l =
    rw (
      add-one,
      add-two,
      get_or-set_same (set es top v) (suc top) v none (rw length-set (omega arith)),
      get_or-set_other (set es top v) (suc top) top v none (omega arith),
      get_or-set_same es top v none (omega arith),
      dues-above (set es top v) (suc top) v top (omega arith),
      dues-above es top v top (omega arith),
    )
pushed es top v (suc (suc (suc n))) h l = absurd (omega arith)

map-replicate : {A B : Type 0} (f : A → B) (n : ℕ) (x : A) → map f (replicate n x) ≡ replicate n (f x)
map-replicate f zero x = refl
map-replicate f (suc n) x = ap (f x ∷◌) (map-replicate f n x)

-- the record's parts are due, one deeper
parts-due : (es : List Entry) (top depth kind n : ℕ) (p : Part) → kind < 256 → top + 1 < length es → p ≡ part_of kind
    → n ≡ length (Kind.parts_of kind)
    → dues (set (set es top (record { depth = depth + 1; part = p })) (top + 1) (record { depth = depth + 1; part = p })) (top + n)
    ≡ map (due_at (suc depth)) (Kind.parts_of kind) ++ dues es top
parts-due es top depth kind n p hk hl hp hn =
    let v : Entry = record { depth = depth + 1; part = p } in
    let u = kind-uniform kind hk in
    let parts : List Kind.Part = Kind.parts_of kind in
    let one : due_of v ≡ due_at (suc depth) (part_in (part_of kind)) = rw (add-one, hp) in
    let same : map (due_at (suc depth)) parts ≡ replicate (length parts) (due_at (suc depth) (part_in (part_of kind))) =
    ap (map (due_at (suc depth))) u.same ∙ map-replicate (due_at (suc depth)) (length parts) (part_in (part_of kind)) in
    let pushes : map due_of (replicate n v) ≡ map (due_at (suc depth)) parts = map-replicate due_of n v ∙ rw (one, hn) (sym same) in
    pushed es top v n hl (rw hn u.few) ∙ rw pushes

-- the entries are as deep as they have to be
parts-sound : (es : List Entry) (top depth n : ℕ) (p : Part) → Sound es (top + 1) → depth ≡ (get_or es top none).depth
    → depth ≤ 64 → n ≤ 2
    → Sound (set (set es top (record { depth = depth + 1; part = p })) (top + 1) (record { depth = depth + 1; part = p })) (top + n)
parts-sound es top depth n p s hd le hn =
    record {
      size = length-set (set es top v) (top + 1) v ∙ length-set es top v ∙ s.size;
      deep = λ j h. deep j h (dec_lt j top);
      bounded = λ j h. bounded j h (dec_lt j top);
    }
  where
    v : Entry
    v = record { depth = depth + 1; part = p }

    after : List Entry
    after = set (set es top v) (top + 1) v

    fits : top + 1 < length es
    fits = omega (arith, s.size, sound-height es (top + 1) s)

    below : (j : ℕ) → j < top → get_or after j none ≡ get_or es j none
    below j h = get_or-set_other (set es top v) (top + 1) j v none (omega arith) ∙ get_or-set_other es top j v none (omega arith)

    at_top : (j : ℕ) → (j < top → ⊥) → j < top + n → get_or after j none ≡ v
    at_top j l h = go (ℕ_discrete j (top + 1))
      where
        go : Dec (j ≡ top + 1) → get_or after j none ≡ v
        go (yes e) = rw (e, get_or-set_same (set es top v) (top + 1) v none (rw length-set fits))
        go (no ne) =
            let e : j ≡ top = omega arith in
            rw (e, get_or-set_other (set es top v) (top + 1) top v none (omega arith), get_or-set_same es top v none (omega arith))

    deep : (j : ℕ) → j < top + n → Dec (j < top) → j < (get_or after j none).depth
    deep j h (yes l) = rw (below j l) (s.deep j (omega arith))
    deep j h (no l) = rw (at_top j l h) (omega (arith, s.deep top (omega arith)))

    bounded : (j : ℕ) → j < top + n → Dec (j < top) → (get_or after j none).depth ≤ 65
    bounded j h (yes l) = rw (below j l) (s.bounded j (omega arith))
    bounded j h (no l) = rw (at_top j l h) (omega arith)

some-first : (es : List Entry) (h kind : ℕ) → is_first (dues es h) kind ≡ true → 1 ≤ h
unfolding dues
some-first es zero kind f = absurd (false≢true f)
some-first es (suc h) kind f = omega arith

-- the record is the first part that is due
module _ (es : List Entry) (h kind : ℕ) (p : Part) (ds : List Due) (view : dues es h ≡ ds) (t : Taken ds kind p) where
  pub taken-some : 1 ≤ h
  taken-some = some-first es h kind (rw view t.first)

  abbrev pub top : Entry
  top = get_or es (h - 1) none

  as-top : ds ≡ due_of top ∷ dues es (h - 1)
  as-top = sym view ∙ dues-top es h (λ z. omega (arith, taken-some))

  fits : Kind.is_part (part_in top.part) kind ≡ true
  fits = subst (λ x. is_first x kind ≡ true) as-top t.first

  pub taken-deep : 64 < top.depth → Grammar.fault 7 ≡ part_step ds (bare kind 0)
  unfolding part_step
  taken-deep d = rw (as-top, fits, part_step, lt-ltb 64 top.depth d)

  module _ (n : ℕ) (sound : Sound es h) (hk : kind < 256) (d : top.depth ≤ 64) (hn : n ≡ length (Kind.parts_of kind)) where
    back : h - 1 + 1 ≡ h
    back = omega (arith, taken-some)

    pub taken-parts :
        Grammar.to (dues (set (set es (h - 1) (record { depth = top.depth + 1; part = p })) (h - 1 + 1) (record { depth = top.depth + 1; part = p })) (h - 1 + n))
        ≡ part_step ds (bare kind 0)
    unfolding part_step
    taken-parts =
        let fit : h - 1 + 1 < length es = omega (arith, sound.size, sound-height es h sound, taken-some) in
        rw (as-top, fits, part_step, le-ltb 64 top.depth d) (ap Grammar.to (parts-due es (h - 1) top.depth kind n p hk fit t.parts hn))

    pub taken-sound : Sound (set (set es (h - 1) (record { depth = top.depth + 1; part = p })) (h - 1 + 1) (record { depth = top.depth + 1; part = p })) (h - 1 + n)
    taken-sound = parts-sound es (h - 1) top.depth n p (rw back sound) refl d (rw hn (kind-uniform kind hk).few)

-- nothing is due
module _ (es : List Entry) (h : ℕ) (ds : List Due) (view : dues es h ≡ ds) (z : h ≡ 0) where
  no-parts : ds ≡ []
  unfolding dues
  no-parts = rw z at (sym view)

  pub first_none : (kind : ℕ) → false ≡ is_first ds kind
  first_none kind = rw no-parts

  pub room-none : 0 ≡ room ds
  room-none = rw no-parts

  pub deepen-none : (by : ℕ) → ds ≡ deepened by ds
  deepen-none by = rw no-parts

-- something is due
module _ (es : List Entry) (h : ℕ) (ds : List Due) (view : dues es h ≡ ds) (n : h ≡ 0 → ⊥) where
  abbrev pub first : Entry
  first = get_or es (h - 1) none

  as-first : ds ≡ due_of first ∷ dues es (h - 1)
  as-first = sym view ∙ dues-top es h n

  pub first_some : (kind : ℕ) (r : Bool) → r ≡ Kind.is_part (part_in first.part) kind → r ≡ is_first ds kind
  first_some kind r e = rw as-first e

  pub room-type : first.part ≡ TypeExpr → 65 - first.depth ≡ room ds
  room-type t = rw (as-first, t)

  pub room-other : (first.part ≡ TypeExpr → ⊥) → 0 ≡ room ds
  room-other t = rw as-first (go first.part refl)
    where
      go : (p : Part) → p ≡ first.part → 0 ≡ room (due_of first ∷ dues es (h - 1))
      go TypeExpr e = absurd (t (sym e))
      go Condition e = rw (← e) refl
      go Operand e = rw (← e) refl

-- row 6: no such part
pub step_other : (ds : List Due) (kind : ℕ) → is_first ds kind ≡ false → Grammar.fault 6 ≡ part_step ds (bare kind 0)
unfolding part_step
step_other [] kind f = refl
step_other (d ∷ ds) kind f = rw (f, part_step)

-- some types of one part have come
room-first : (e : Entry) (ds : List Due) → room (due_of e ∷ ds) ≤ 65 - e.depth
room-first e ds = go e.part refl
  where
    go : (p : Part) → p ≡ e.part → room (due_of e ∷ ds) ≤ 65 - e.depth
    go TypeExpr t = rw (← t) (omega arith)
    go Condition t = rw (← t) (omega arith)
    go Operand t = rw (← t) (omega arith)

module _ (es : List Entry) (h by n m : ℕ) (ds : List Due) (view : dues es h ≡ ds) (hn : n ≡ room ds) (hm : m ≡ min by n) (some : h ≡ 0 → ⊥) where
  abbrev pub old : Entry
  old = get_or es (h - 1) none

  abbrev pub new : Entry
  new = record { depth = old.depth + m; part = old.part }

  as-old : ds ≡ due_of old ∷ dues es (h - 1)
  as-old = sym view ∙ dues-top es h some

  pub deepen-fits : m ≤ 65 - old.depth
  deepen-fits = omega (arith, hm, hn, rw (← as-old) at (room-first old (dues es (h - 1))))

  module _ (sound : Sound es h) where
    within : h - 1 < length es
    within = omega (arith, sound-height es h sound, sound.size, some)

    pub deepened-dues : dues (set es (h - 1) new) h ≡ deepened by ds
    deepened-dues =
        dues-top (set es (h - 1) new) h some
        ∙ rw (get_or-set_same es (h - 1) new none within, dues-above es (h - 1) new (h - 1) (omega arith), hm, hn, as-old)

    pub deepened-sound : Sound (set es (h - 1) new) h
    deepened-sound =
        record {
          size = length-set es (h - 1) new ∙ sound.size;
          deep = λ j l. by-deep j l (ℕ_discrete j (h - 1));
          bounded = λ j l. by-bounded j l (ℕ_discrete j (h - 1));
        }
      where
        at_top : (j : ℕ) → j ≡ h - 1 → get_or (set es (h - 1) new) j none ≡ new
        at_top j e = rw e (get_or-set_same es (h - 1) new none within)

        below : (j : ℕ) → (j ≡ h - 1 → ⊥) → get_or (set es (h - 1) new) j none ≡ get_or es j none
        below j e = get_or-set_other es (h - 1) j new none e

        by-deep : (j : ℕ) → j < h → Dec (j ≡ h - 1) → j < (get_or (set es (h - 1) new) j none).depth
        by-deep j l (yes e) = rw (at_top j e) (omega (arith, e, sound.deep (h - 1) (omega arith)))
        by-deep j l (no e) = rw (below j e) (sound.deep j l)

        by-bounded : (j : ℕ) → j < h → Dec (j ≡ h - 1) → (get_or (set es (h - 1) new) j none).depth ≤ 65
        by-bounded j l (yes e) = rw (at_top j e) (omega (arith, deepen-fits, sound.bounded (h - 1) (omega (arith, some))))
        by-bounded j l (no e) = rw (below j e) (sound.bounded j l)

-- one part is due, of depth 1
module _ (es : List Entry) (v : Entry) (one : v.depth ≡ 1) (size : length es ≡ 66) where
  begun : get_or (set es 0 v) 0 none ≡ v
  begun = get_or-set_same es 0 v none (omega (arith, size))

  pub begins-dues : dues (set es 0 v) 1 ≡ due_of v ∷ []
  unfolding dues
  begins-dues = rw begun
