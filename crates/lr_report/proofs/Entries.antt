-- A device's log, one entry more.
use Rattle.std.proofs.Common.{◌≡◌, ℕ, ◌+◌, ◌<◌, List, [], ◌∷◌, ◌++◌, length, take, Some, ap, sym, ◌∙◌, append_assoc}
use Rattle.std.specs.List.{slice_get, flat_map}
use Rattle.std.proofs.lemmas.Option.{get_or_from_slice_get}
use Rattle.std.proofs.lemmas.List.{take_more}
use Rattle.std.proofs.lemmas.Grind.{flat_map-append}
use Rattle.lr_device.specs.PlainDevice.{Answered}
use Rattle.lr_device.specs.Machine.{LogEntry, answered, history}
use Rattle.lr_device.proofs.Public.{history_push}

-- the history up to an entry, and the entry's call
history_more : (log : List LogEntry) (at : ℕ) (e : LogEntry) → at < length log → slice_get log at ≡ Some e → history (take (at + 1) log) ≡ history (take at log) ++ answered e.caller e.call e.reply
history_more log at e within found =
    ap history (take_more log at e within ∙ ap (λ (x : LogEntry). take at log ++ x ∷ []) (get_or_from_slice_get log at e e found)) ∙ history_push (take at log) e

pub entries_more : (text : Answered → List ℕ) (before now after : List ℕ) (log : List LogEntry) (at : ℕ) (e : LogEntry) → at < length log → slice_get log at ≡ Some e
    → now ≡ before ++ flat_map text (history (take at log)) → after ≡ now ++ flat_map text (answered e.caller e.call e.reply)
    → after ≡ before ++ flat_map text (history (take (at + 1) log))
entries_more text before now after log at e within found was put =
    let done = history (take at log) in
    let next = answered e.caller e.call e.reply in
    put ∙ ap (λ (t : List ℕ). t ++ flat_map text next) was ∙ append_assoc before (flat_map text done) (flat_map text next)
    ∙ ap (λ (t : List ℕ). before ++ t) (sym (flat_map-append text done next) ∙ ap (flat_map text) (sym (history_more log at e within found)))
