-- The actors of the parser as they are seen.
use Rattle.std.proofs.Common.{◌≡◌, ℕ, List, [], ◌∷◌, ◌++◌, map, Vec, nat_eq, sym, ap, ◌∙◌}
use Rattle.std.specs.Global.{Global}
use Rattle.std.specs.List.{position}
use Rattle.std.specs.Cmp.Lexicographic.{pointwise}
use Rattle.std.proofs.lemmas.List.{map-append}
use Rattle.lr_text.specs.Name.{place_of}
use Rattle.lr_script.specs.declared.script.Job.{Job}
use Rattle.lr_script.specs.Seen.{JobSeen, job_seen, jobs_seen, actors_seen}
use Rattle.lr_script.specs.State.{onto_last}
use Rattle.lr_script.proofs.Lists.{position_map, onto_last-push}

pub place_seen : (now actors : List (List ℕ × Vec Job Global)) (name : List ℕ) → now ≡ actors → position (λ a. pointwise nat_eq a.0 name) now ≡ place_of (map (λ a. a.0) (actors_seen actors)) name
place_seen now actors name e =
    let f : (List ℕ × List JobSeen) → List ℕ = λ a. a.0 in
    let g : (List ℕ × Vec Job Global) → (List ℕ × List JobSeen) = λ p. (p.0, jobs_seen p.1.items) in
    ap (position (λ a. pointwise nat_eq a.0 name)) e
    ∙ sym (position_map f (λ n. pointwise nat_eq n name) (map g actors) ∙ position_map g (λ a. pointwise nat_eq a.0 name) actors)

pub pushed : (front : List (List ℕ × Vec Job Global)) (name : List ℕ) (jobs more : Vec Job Global) (job : Job) (old new : List (List ℕ × Vec Job Global))
    → old ≡ front ++ (name, jobs) ∷ [] → more.items ≡ jobs.items ++ job ∷ [] → new ≡ front ++ (name, more) ∷ []
    → actors_seen new ≡ onto_last (job_seen job) (actors_seen old)
pushed front name jobs more job old new e m n =
    let g : (List ℕ × Vec Job Global) → (List ℕ × List JobSeen) = λ p. (p.0, jobs_seen p.1.items) in
    let a : actors_seen new ≡ actors_seen front ++ (name, jobs_seen more.items) ∷ [] = ap actors_seen n ∙ map-append g front ((name, more) ∷ []) in
    let b : jobs_seen more.items ≡ jobs_seen jobs.items ++ job_seen job ∷ [] = ap jobs_seen m ∙ map-append job_seen jobs.items (job ∷ []) in
    let c : actors_seen old ≡ actors_seen front ++ (name, jobs_seen jobs.items) ∷ [] = ap actors_seen e ∙ map-append g front ((name, jobs) ∷ []) in
    a ∙ ap (λ (t : List JobSeen). actors_seen front ++ (name, t) ∷ []) b ∙ sym (ap (onto_last (job_seen job)) c ∙ onto_last-push (job_seen job) (actors_seen front) (name, jobs_seen jobs.items))
