-- Claimed.
-- What each flag says of all the tokens so far and their fates.
use Rattle.std.specs.Prelude.{◌≡◌, ◌⊎◌, IsTrue, List, Decides, length}
use Rattle.html_names.specs.declared.tag.Tag.TheVariants as tag
use Rattle.html_ledger.specs.declared.symbol.Symbol.{Symbol}
use Rattle.html_ledger.specs.declared.setting.Setting.{Setting}
use Rattle.html_ledger.specs.declared.fate.Fate.{Fate}
use Rattle.html_ledger.specs.declared.history.History.{History}
use Rattle.html_ledger.specs.Settings.{is_fragment, context_is, has_form}
use Rattle.html_ledger.specs.MayDrop.{WasMade, HasOpenSelect, IgnoresLineFeed, AwaitsDoctype, InProlog, MayBeForeign}

-- The flags of a history are those of these tokens with these fates, one each.
pub record Knows (s : Setting) (h : History) (tokens : List Symbol) (fates : List Fate) : Type 0 where
  pub counted : length fates ≡ length tokens
  pub awaits_doctype : Decides h.awaits_doctype (AwaitsDoctype s tokens)
  pub prolog : Decides h.prolog (InProlog s tokens)
  pub ignore_line_feed : Decides h.ignore_line_feed (IgnoresLineFeed tokens fates)
  pub select_context : Decides h.select_context (IsTrue (context_is tag.Select s))
  pub select : Decides h.select (WasMade tag.Select tokens fates)
  pub open_select : Decides h.open_select (HasOpenSelect tokens fates)
  pub template : Decides h.template (WasMade tag.Template tokens fates)
  pub fragment : Decides h.fragment (IsTrue (is_fragment s))
  pub frameset : Decides h.frameset (WasMade tag.Frameset tokens fates ⊎ IsTrue (context_is tag.Frameset s))
  pub col : Decides h.col (WasMade tag.Col tokens fates ⊎ IsTrue (context_is tag.Colgroup s))
  pub noscript : Decides h.noscript (WasMade tag.Noscript tokens fates)
  pub form : Decides h.form (WasMade tag.Form tokens fates ⊎ IsTrue (has_form s))
  pub foreign : Decides h.foreign (MayBeForeign s tokens fates)
