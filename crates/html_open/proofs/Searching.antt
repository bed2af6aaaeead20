-- What the search for the entries to be opened anew costs.
use Rattle.std.proofs.Common.{◌≡◌, ℕ, ◌+◌, ◌-◌, ◌*◌, Bool, false, List, [], ◌∷◌, length, Option, Some, None, inl, inr, refl, sym, ap, ◌∙◌}
use Rattle.std.specs.List.{list_any}
use Rattle.html_open.specs.declared.entry.Entry.{Entry}
use Rattle.html_open.specs.declared.entry.Entry.TheVariants.{Marker}
use Rattle.html_open.specs.Lists.{above, after_index, last_index, last_where}
use Rattle.html_open.specs.Reopening.{end_steps, search_steps}
use Rattle.html_open.specs.ReopenedEntry.{end_steps_at}
use Rattle.html_open.proofs.Keeps.{cases_bool}
use Rattle.html_open.proofs.Lists.{after-length, last_where-at, not_any}

none-last : (p : Entry → Bool) (es : List Entry) → list_any p es ≡ false → last_where p es ≡ None
none-last p [] h = refl
none-last p (e ∷ es) h = elim (cases_bool (p e)) [
  | inl a ↦ absurd (let k = rw a at h in cc)
  | inr a ↦ (let k : list_any p es ≡ false = rw a at h in rw (k, a) refl)
]

pub search-is : (p : Entry → Bool) (es : List Entry) (o : Option ℕ) → o ≡ last_index p es → 2 * (length es - after_index o) + end_steps_at es o ≡ search_steps p es
search-is p es o e =
    let n = after-length p es o (length es) refl e in
    ap (λ k. 2 * k + end_steps_at es o) n.0 ∙ ap (λ k. 2 * length (above p es) + k) (by o e)
  where
    by : (o : Option ℕ) → o ≡ last_index p es → end_steps_at es o ≡ end_steps (last_where p es)
    by None e = ap end_steps (sym (none-last p es (not_any p es (sym e))))
    by (Some i) e = ap end_steps (sym (last_where-at p es i Marker (sym e)))
