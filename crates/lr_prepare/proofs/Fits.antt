-- scripts within the limits fit
use Rattle.std.proofs.Common.{◌≡◌, ◌≤◌, ◌<◌, ◌+◌, ℕ, List, [], ◌∷◌, length, refl, sym, subst, arith}
use Rattle.std.proofs.lemmas.List.Sums.{sum_by-cons}
use Rattle.std.specs.List.{AllByRecursion}
use Rattle.lr_script.specs.Limits.{hosts_most}
use Rattle.lr_script.specs.Seen.{ScriptSeen, SetupSeen, Host, Root, Image, Device}
use Rattle.lr_script.specs.Within.{host_count, hosts_in, IsSetupWithin, IsWithin}
use Rattle.lr_prepare.specs.Fit.{HasRoom, IsFit}
use Rattle.lr_prepare.specs.Lines.{unnumbered, capacities}

rooms : (hosts : ℕ) (setup : List (ℕ × SetupSeen)) → AllByRecursion (λ (p : ℕ × SetupSeen). IsSetupWithin hosts p.1) setup → AllByRecursion HasRoom (capacities (unnumbered setup))
rooms hosts [] h = tt
rooms hosts ((n, Host name size) ∷ setup) h = (omega (arith, h.0.0), rooms hosts setup h.1)
rooms hosts ((n, Root salt) ∷ setup) h = rooms hosts setup h.1
rooms hosts ((n, Image name tenant len body) ∷ setup) h = rooms hosts setup h.1
rooms hosts ((n, Device name host image tenant) ∷ setup) h = rooms hosts setup h.1

count : (setup : List (ℕ × SetupSeen)) → length (capacities (unnumbered setup)) ≡ hosts_in setup
count [] = refl
count ((n, Host name size) ∷ setup) = let more = count setup in let first = sum_by-cons (λ (p : ℕ × SetupSeen). host_count p.1) (n, Host name size) setup in omega (arith, more, first)
count ((n, Root salt) ∷ setup) = let first = sum_by-cons (λ (p : ℕ × SetupSeen). host_count p.1) (n, Root salt) setup in let more = count setup in omega (arith, more, first)
count ((n, Image name tenant len body) ∷ setup) = let first = sum_by-cons (λ (p : ℕ × SetupSeen). host_count p.1) (n, Image name tenant len body) setup in let more = count setup in omega (arith, more, first)
count ((n, Device name host image tenant) ∷ setup) = let first = sum_by-cons (λ (p : ℕ × SetupSeen). host_count p.1) (n, Device name host image tenant) setup in let more = count setup in omega (arith, more, first)

pub fits : (script : ScriptSeen) → IsWithin script → IsFit script
fits script h = record {
  nodes = omega (arith, h.some_cap);
  hosts = rooms (hosts_in script.setup) script.setup h.setup;
  few = subst (λ (n : ℕ). n ≤ hosts_most) (sym (count script.setup)) h.hosts;
}
