use Rattle.std.proofs.Common.{◌≡◌, ◌∙◌, Bool, Option, Some, None, refl, true, false, codes}
use Rattle.clap.specs.Words.{Text, found_of, one_of, rows_of}
use Rattle.clap.proofs.WalkLemmas.{one_text-rows}
use Rattle.html_job.specs.Read.{IsFlag}
use Rattle.html_job.proofs.words.flag.Goals as goal

told : (b : Bool) (text : Option Text) → (text ≡ None → b ≡ false) → (text ≡ Some (codes "true") → b ≡ true) → (text ≡ Some (codes "false") → b ≡ false) → IsFlag b text
told b None missing set clear = missing refl
told b (Some t) missing set clear = (λ e. set (λ i. Some (e i)), λ e. clear (λ i. Some (e i)))

pub returns : goal.returns
returns c =
    let same = one_text-rows (found_of c.args.matches.now) c.args.name.now in
    told c.get_flag.result (one_of c.args.name.now (rows_of (found_of c.args.matches.now)))
    (λ e. c.get_flag.ensures.none (same ∙ e)) (λ e. c.get_flag.ensures.value (same ∙ e)) (λ e. c.get_flag.ensures.other (same ∙ e))
