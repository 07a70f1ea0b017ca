-- Lists of entries with strictly increasing keys: two of them with the same members are equal.
use mathlib.Core.Path.{◌≡◌, refl, sym, ap, ap₂, ◌∙◌}
use mathlib.Core.List.Memᴰ.{head as here}
use mathlib.Core.List.Memᴰ.{not-nil as no_member}
use mathlib.Core.List.Memᴰ.{tail as later}
use mathlib.Core.List.{List, [], ◌∷◌, Memᴰ as Among}
use Prim.Native.Nat.{ℕ, zero, suc, ◌<◌}
use native.Mathlib.Nat.{le_of_suc-le-suc, not-suc-le-zero}
use native.Mathlib.Omega.{arith}
use lib.ListN.{length, get_or}
use Rattle.octets.specs.Order.{order}
use Rattle.std.specs.declared.cmp.Ordering.TheVariants.{Less, Equal}
use Rattle.walk.specs.Entries.{Entry, Increasing}
use Rattle.octets.proofs.OrderLaws.{order_same, order_trans}

-- nothing is below itself
never_below : (a b : List ℕ) → a ≡ b → order a b ≡ Less → ⊥
never_below a b e l =
    let s : order a b ≡ Equal = ap (order a) (sym e) ∙ order_same a in
    let z : ◌≡◌ {A = ℕ} 0 1 = cc in
    omega arith

-- the key that an increasing list starts from is below every member's
below_all : (previous : List ℕ) (es : List Entry) → Increasing previous es → (x : Entry) → Among x es → order previous x.key ≡ Less
below_all previous [] h x m = absurd (no_member m)
below_all previous (e ∷ es) h x (here p) = ap (λ (y : Entry). order previous y.key) p ∙ h.0
below_all previous (e ∷ es) h x (later m) = order_trans previous e.key x.key h.0 (below_all e.key es h.1 x m)

pub among_at : (es : List Entry) (i : ℕ) (d : Entry) → i < length es → Among (get_or es i d) es
among_at [] i d l = absurd (not-suc-le-zero l)
among_at (e ∷ es) zero d l = here refl
among_at (e ∷ es) (suc i) d l = later (among_at es i d (le_of_suc-le-suc l))

pub increasing_at : (previous : List ℕ) (es : List Entry) (d : Entry) → Increasing previous es → (i j : ℕ) → i < j → j < length es → order (get_or es i d).key (get_or es j d).key ≡ Less
increasing_at previous [] d h i j l m = absurd (not-suc-le-zero m)
increasing_at previous (e ∷ es) d h i zero l m = absurd (not-suc-le-zero l)
increasing_at previous (e ∷ es) d h zero (suc j) l m = below_all e.key es h.1 (get_or es j d) (among_at es j d (le_of_suc-le-suc m))
increasing_at previous (e ∷ es) d h (suc i) (suc j) l m = increasing_at e.key es d h.1 i j (le_of_suc-le-suc l) (le_of_suc-le-suc m)

-- every member of the one list is a member of the other
abbrev pub Inside : List Entry → List Entry → Type 0
Inside es fs = (x : Entry) → Among x es → Among x fs

head_same : (e f : Entry) (es fs : List Entry) → Increasing e.key es → Increasing f.key fs → Among e (f ∷ fs) → Among f (e ∷ es) → e ≡ f
head_same e f es fs h k (here p) n = p
head_same e f es fs h k (later m) (here q) = sym q
head_same e f es fs h k (later m) (later n) =
    absurd (never_below e.key e.key refl (order_trans e.key f.key e.key (below_all e.key es h f n) (below_all f.key fs k e m)))

tail_inside : (e f : Entry) (es fs : List Entry) → e ≡ f → Increasing e.key es → Inside (e ∷ es) (f ∷ fs) → Inside es fs
tail_inside e f es fs p h there x m = go (there x (later m))
  where
    go : Among x (f ∷ fs) → Among x fs
    go (here q) = absurd (never_below e.key x.key (ap (λ (y : Entry). y.key) (p ∙ sym q)) (below_all e.key es h x m))
    go (later n) = n

pub same_entries : (a b : List ℕ) (es fs : List Entry) → Increasing a es → Increasing b fs → Inside es fs → Inside fs es → es ≡ fs
same_entries a b [] [] h k there back = refl
same_entries a b [] (f ∷ fs) h k there back = absurd (no_member (back f (here refl)))
same_entries a b (e ∷ es) [] h k there back = absurd (no_member (there e (here refl)))
same_entries a b (e ∷ es) (f ∷ fs) h k there back =
    let p : e ≡ f = head_same e f es fs h.1 k.1 (there e (here refl)) (back f (here refl)) in
    ap₂ ◌∷◌ p (same_entries e.key f.key es fs h.1 k.1 (tail_inside e f es fs p h.1 there) (tail_inside f e fs es (sym p) k.1 back))
