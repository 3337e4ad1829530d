use Rattle.std.proofs.Common.{◌≡◌, ◌++◌, ℕ, List, map, take, ap, ◌∙◌}
use Rattle.std.specs.Prelude.{Vec, option_map}
use Rattle.std.specs.Global.{Global}
use Rattle.std.proofs.lemmas.List.{take_all}
use Rattle.lr_script.specs.Seen.{ScriptSeen, jobs_seen}
use Rattle.lr_script.specs.declared.script.Job.{Job}
use Rattle.lr_report.specs.Names.{after_name, caller_names}
use Rattle.lr_report.proofs.Naming.{actors_named}
use Rattle.lr_report.proofs.names.caller_names.Goals as goal

pub returns : goal.returns
unfolding caller_names
returns c =
    let first : List ℕ × Vec Job Global → List ℕ = λ p. p.0 in
    let all : take c.loop-name.name-index c.deref-name-items.result.now ≡ c.script.inside.actors.items =
    take_all c.loop-name.name-index c.deref-name-items.result.now c.loop-name-test.false ∙ c.deref-name-items.ensures.value in
    let last : List (List ℕ) = after_name (option_map (λ (v : Vec Job Global). jobs_seen v.items) c.script.inside.after) in
    c.in_ok-add_after.ensures
    ∙ ap (λ (ns : List (List ℕ)). ns ++ last) (c.loop-name.invariant ∙ ap (map first) all ∙ actors_named c.script.inside.actors.items)
    ∙ ap (λ (s : ScriptSeen). caller_names s) c.script.view_is
