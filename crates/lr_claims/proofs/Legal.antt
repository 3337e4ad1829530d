-- What calls made of an empty log is legal.
use Rattle.std.proofs.Common.{◌≡◌, ℕ, List, [], ◌∷◌, ◌++◌, true, fold, refl, sym, ap, subst, ◌∙◌}
use Rattle.lr_object.specs.Grown.{Grown, same, more}
use Rattle.lr_cache.specs.declared.call.CacheCall.{CacheCall}
use Rattle.lr_cache.specs.declared.call.CacheReply.{CacheReply}
use Rattle.lr_cache.specs.declared.call.CacheReply.TheVariants.{Hit}
use Rattle.lr_cache.specs.Machine.{State, CacheStep, SameReply, is_logged, LogEntry, empty, after_entry, run}
use Rattle.lr_cache.specs.Orderly.{Answers, MayEnter}
use Rattle.lr_cache.proofs.Public.{told_step}
use Rattle.lr_claims.specs.Logs.{IsLegal, CacheLogsAreLegal}

told_logged : (told reply : CacheReply) → SameReply told reply → is_logged reply ≡ true → is_logged told ≡ true
told_logged (Hit a) (Hit b) e l = refl
told_logged (Hit a) reply e l = absurd e
told_logged told reply e l = ap is_logged e ∙ l

legal_more : (capacity : ℕ) (st : State) (log : List LogEntry) (e : LogEntry) → IsLegal capacity st log
    → CacheStep (fold (after_entry capacity) st log) e.caller e.call e.reply → is_logged e.reply ≡ true → IsLegal capacity st (log ++ e ∷ [])
legal_more capacity st [] e h s l = (s, l, tt)
legal_more capacity st (x ∷ log) e h s l = (h.0, h.1, legal_more capacity (after_entry capacity st x) log e h.2 s l)

from_start : {capacity : ℕ} {start log : List LogEntry} → Grown Answers MayEnter capacity start log → IsLegal capacity empty start → IsLegal capacity empty log
from_start same h = h
from_start {capacity} (more {log = log} g call reply e answered entered) h =
    legal_more capacity empty log e (from_start g h)
    (told_step (run capacity log) e.caller e.call e.reply reply entered.told (subst (λ (c : CacheCall). CacheStep (run capacity log) e.caller c reply) (sym entered.noted) answered))
    (told_logged e.reply reply entered.told entered.logged)

pub legal : CacheLogsAreLegal
legal capacity log g = from_start g tt
