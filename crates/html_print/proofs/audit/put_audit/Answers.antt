use Rattle.std.proofs.Common.{◌++◌, [], refl, sym, ◌∙◌, append_assoc}
use Rattle.html_token_list.specs.Shown.{shown}
use Rattle.html_device.proofs.Puts.{Moves-nil, Moves-trans, front_after, put_err}
use Rattle.html_print.specs.Audit.{audit_line, audit_lines}
use Rattle.html_print.proofs.Pieced.{more_lines}
use Rattle.html_print.proofs.audit.put_audit.Goals as goal

pub tokens-init : goal.tokens-init
tokens-init g c = record {
  done = [];
  so_far = rw (c.into_iter-token-iterator.ensures.into_iter_gives, c.iter-token-items.ensures.value, c.iter-rest.ensures.value) refl;
  put = Moves-nil _ _;
  failing = λ now. now;
  stalling = λ now. now;
}

pub tokens-preserved : goal.tokens-preserved
tokens-preserved g c =
    let v = c.tokens.invariant in
    let line = audit_line (shown c.in-Some.token) c.in-Some-next.fate in
    record {
      done = v.done ++ line;
      so_far =
          more_lines _ v.done c.tokens.token-iterator c.next.new.self c.tokens.rest c.next-in-tokens.new.self (shown c.in-Some.token) c.in-Some-next.fate v.so_far c.in-Some.ensures.steps c.in-Some-next.ensures.steps
          ∙ sym (append_assoc v.done line (audit_lines c.next.new.self c.next-in-tokens.new.self));
      put = Moves-trans _ _ _ _ _ _ _ _ v.put c.in_ok-put_token.ensures.bytes;
      failing = λ now. v.failing (c.in_ok-put_token.ensures.failing now);
      stalling = λ now. v.stalling (c.in_ok-put_token.ensures.stalling now);
    }

pub returns-in_err-put_token-clause-bytes : goal.returns-in_err-put_token-clause-bytes
returns-in_err-put_token-clause-bytes g c =
    let v = c.tokens.invariant in
    put_err _ _ _ _ _ _ c.from_residual.ensures.0
    (front_after _ _ _ _ _ _ _ _ v.put c.in_err-put_token.ensures.bytes (audit_lines c.next.new.self c.next-in-tokens.new.self)
    (more_lines _ v.done c.tokens.token-iterator c.next.new.self c.tokens.rest c.next-in-tokens.new.self (shown c.in-Some.token) c.in-Some-next.fate v.so_far c.in-Some.ensures.steps c.in-Some-next.ensures.steps))
