-- Bytes put one after another.
use Rattle.std.proofs.Common.{◌≡◌, ℕ, List, [], ◌++◌, Option, Some, None, sym, ◌∙◌, ap, subst, append_assoc, append-nil}
use Rattle.std.specs.Io.KnownBytes.{Appends}
use Rattle.std.specs.Prelude.{Result, Ok, Err, IsErr, OnOk, OnErr}
use Rattle.html_device.specs.Device.{AppendsFront}
use Rattle.html_device.specs.declared.device.DeviceFault.{DeviceFault}
use Rattle.html_device.specs.Putting.{Moves, MovesFront, Puts}

pub Appends-nil : (a : Option (List ℕ)) → Appends a a []
Appends-nil None = tt
Appends-nil (Some x) = sym (append-nil x)

pub Appends-trans : (a b c : Option (List ℕ)) (xs ys : List ℕ) → Appends a b xs → Appends b c ys → Appends a c (xs ++ ys)
Appends-trans None b c xs ys p q = tt
Appends-trans (Some x) None c xs ys p q = absurd p
Appends-trans (Some x) (Some y) None xs ys p q = absurd q
Appends-trans (Some x) (Some y) (Some z) xs ys p q = q ∙ ap (λ l. l ++ ys) p ∙ append_assoc x xs ys

pub Appends-is : (a b : Option (List ℕ)) (xs ys : List ℕ) → xs ≡ ys → Appends a b xs → Appends a b ys
Appends-is a b xs ys e p = subst (Appends a b) e p

-- nothing is put
pub Moves-nil : (a : Option (List ℕ)) (h : List ℕ) → Moves a h a h []
Moves-nil a h = record { moved = []; taken = Appends-nil a; split = append-nil h }

-- bytes are kept
pub Moves-kept : (a : Option (List ℕ)) (h k xs : List ℕ) → k ≡ h ++ xs → Moves a h a k xs
Moves-kept a h k xs e = record { moved = []; taken = Appends-nil a; split = sym e }

-- those that were kept are written
pub Moves-flushed : (a b : Option (List ℕ)) (h k l xs : List ℕ) → Appends a b h → k ≡ [] → l ≡ k ++ xs → Moves a h b l xs
Moves-flushed a b h k l xs p e f = record { moved = h; taken = p; split = ap (λ z. h ++ z) (sym (f ∙ ap (λ z. z ++ xs) e)) }

-- and then these are
pub Moves-through : (a b c : Option (List ℕ)) (h k xs : List ℕ) → Appends a b h → k ≡ [] → Appends b c xs → Moves a h c k xs
Moves-through a b c h k xs p e q = record {
  moved = h ++ xs;
  taken = Appends-trans a b c h xs p q;
  split = sym (append-nil (h ++ xs)) ∙ ap (λ z. (h ++ xs) ++ z) (sym e);
}

pub front_flushing : (a b : Option (List ℕ)) (h xs : List ℕ) → AppendsFront a b h → MovesFront a h b xs
front_flushing a b h xs (front, rest, e, p) =
    (rest ++ xs, record { moved = front; taken = p; split = ap (λ z. z ++ xs) e ∙ append_assoc front rest xs })

pub front_through : (a b c : Option (List ℕ)) (h xs : List ℕ) → Appends a b h → AppendsFront b c xs → MovesFront a h c xs
front_through a b c h xs p (front, rest, e, q) = (
  rest,
  record { moved = h ++ front; taken = Appends-trans a b c h front p q; split = ap (λ z. h ++ z) e ∙ sym (append_assoc h front rest) },
)

pub Moves-trans : (a b c : Option (List ℕ)) (h k l xs ys : List ℕ) → Moves a h b k xs → Moves b k c l ys → Moves a h c l (xs ++ ys)
Moves-trans a b c h k l xs ys p q = record {
  moved = p.moved ++ q.moved;
  taken = Appends-trans a b c p.moved q.moved p.taken q.taken;
  split =
      sym (append_assoc h xs ys) ∙ ap (λ z. z ++ ys) p.split ∙ append_assoc p.moved k ys ∙ ap (λ z. p.moved ++ z) q.split
      ∙ sym (append_assoc p.moved q.moved l);
}

pub Moves-is : (a b : Option (List ℕ)) (h k xs ys : List ℕ) → xs ≡ ys → Moves a h b k xs → Moves a h b k ys
Moves-is a b h k xs ys e p = subst (Moves a h b k) e p

-- a fault after xs
pub front_after : (a b c : Option (List ℕ)) (h k xs ys all : List ℕ) → Moves a h b k xs → MovesFront b k c ys → (zs : List ℕ) → all ≡ xs ++ (ys ++ zs) → MovesFront a h c all
front_after a b c h k xs ys all p (left, q) zs e =
    let m = Moves-trans a b c h k left xs ys p q in (
      left ++ zs,
      record {
        moved = m.moved;
        taken = m.taken;
        split =
            ap (λ z. h ++ z) (e ∙ sym (append_assoc xs ys zs)) ∙ sym (append_assoc h (xs ++ ys) zs) ∙ ap (λ z. z ++ zs) m.split
            ∙ append_assoc m.moved left zs;
      },
    )

pub front_first : (a b : Option (List ℕ)) (h xs all : List ℕ) → MovesFront a h b xs → (zs : List ℕ) → all ≡ xs ++ zs → MovesFront a h b all
front_first a b h xs all q zs e = front_after a a b h h [] xs all (Moves-nil a h) q zs e

-- after a fault
pub put_err : (a b : Option (List ℕ)) (h k : List ℕ) (r : Result (Unit {0}) DeviceFault) (all : List ℕ) → IsErr r → MovesFront a h b all → Puts a h b k r all
put_err a b h k (Ok u) all e q = absurd (let k = e in cc)
put_err a b h k (Err f) all e q = q

-- some bytes, and then the last
pub put_after : (a b c : Option (List ℕ)) (h k l : List ℕ) (r : Result (Unit {0}) DeviceFault) (xs ys all : List ℕ) → Moves a h b k xs → Puts b k c l r ys → all ≡ xs ++ ys → Puts a h c l r all
put_after a b c h k l (Ok u) xs ys all p q e = Moves-is a c h l (xs ++ ys) all (sym e) (Moves-trans a b c h k l xs ys p q)
put_after a b c h k l (Err f) xs ys all p q e = front_after a b c h k xs ys all p q [] (e ∙ ap (λ l. xs ++ l) (sym (append-nil ys)))

pub put_is : (a b : Option (List ℕ)) (h k : List ℕ) (r : Result (Unit {0}) DeviceFault) (xs ys : List ℕ) → Puts a h b k r xs → ys ≡ xs → Puts a h b k r ys
put_is a b h k r xs ys p e = subst (Puts a h b k r) (sym e) p

-- all was put, and the rest of it is written
pub written_all : (a b c : Option (List ℕ)) (h k xs : List ℕ) → h ≡ [] → Moves a h b k xs → Appends b c k → Appends a c xs
written_all a b c h k xs e p q =
    Appends-is a c (p.moved ++ k) xs (sym p.split ∙ ap (λ z. z ++ xs) e) (Appends-trans a b c p.moved k p.taken q)

pub written_front : (a b c : Option (List ℕ)) (h k xs : List ℕ) → h ≡ [] → Moves a h b k xs → AppendsFront b c k → AppendsFront a c xs
written_front a b c h k xs e p (front, rest, f, q) = (
  p.moved ++ front,
  rest,
  sym (ap (λ z. z ++ xs) e) ∙ p.split ∙ ap (λ z. p.moved ++ z) f ∙ sym (append_assoc p.moved front rest),
  Appends-trans a b c p.moved front p.taken q,
)

pub front_written : (a b : Option (List ℕ)) (h xs : List ℕ) → h ≡ [] → MovesFront a h b xs → AppendsFront a b xs
front_written a b h xs e (left, p) = (p.moved, left, sym (ap (λ z. z ++ xs) e) ∙ p.split, p.taken)

-- those that were kept are written, and then these, which may fail
pub put_through : (a b c : Option (List ℕ)) (h k : List ℕ) (r : Result (Unit {0}) DeviceFault) (xs : List ℕ) → Appends a b h → k ≡ [] → OnOk r (Appends b c xs) → OnErr r (AppendsFront b c xs) → Puts a h c k r xs
put_through a b c h k (Ok u) xs p e q f = Moves-through a b c h k xs p e q
put_through a b c h k (Err d) xs p e q f = front_through a b c h xs p f

-- all was put into what was empty, and what is kept of it is written, which may fail
module _ (a b c : Option (List ℕ)) (h k xs : List ℕ) (e : h ≡ []) where
  pub flush_ok : (r : Result (Unit {0}) DeviceFault) → Moves a h b k xs → OnOk r (Appends b c k) → OnOk r (Appends a c xs)
  flush_ok (Ok u) p q = written_all a b c h k xs e p q
  flush_ok (Err f) p q = tt

  pub flush_err : (r : Result (Unit {0}) DeviceFault) → Moves a h b k xs → OnErr r (AppendsFront b c k) → OnErr r (AppendsFront a c xs)
  flush_err (Ok u) p q = tt
  flush_err (Err f) p q = written_front a b c h k xs e p q

-- what was empty took a front
pub put_front : (a b : Option (List ℕ)) (h xs : List ℕ) → h ≡ [] → (r : Result (Unit {0}) DeviceFault) → MovesFront a h b xs → OnErr r (AppendsFront a b xs)
put_front a b h xs e (Ok u) p = tt
put_front a b h xs e (Err f) p = front_written a b h xs e p
