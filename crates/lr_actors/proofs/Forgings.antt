-- a forging's steps: with each one the walk goes on
use Rattle.std.proofs.Common.{◌≡◌, inl, inr, ℕ, zero, suc, replicate, ◌+◌, ◌≤◌, List, [], ◌∷◌, ◌++◌, length, arith, refl, sym, subst, ◌∙◌, append_assoc}
use Rattle.std.specs.List.{AllByRecursion}
use Rattle.lr_manifest.specs.declared.name.Name.{Name}
use Rattle.lr_stripe.specs.Code.{IsStripe}
use Rattle.lr_stripe.specs.Good.{IsGood}
use Rattle.lr_stripe.specs.declared.stripe.Stripe.{Stripe}
use Rattle.lr_walk.specs.declared.trail.Answer.{Answer}
use Rattle.lr_walk.specs.declared.trail.Answer.TheVariants.{Forged, Memory}
use Rattle.lr_walk.specs.Steps.{Reply, by_node, Step, step}
use Rattle.lr_walk.specs.Damage.{IsForged, forged_so_far, PutsForged}
use Rattle.lr_walk.specs.Node as nodes
use Rattle.lr_walk.specs.Stands.{Stands}
use Rattle.lr_walk.proofs.Stands.{made_walk}
use Rattle.lr_actors.specs.Asked.{an_end, Adds}
use Rattle.lr_actors.specs.Forging.{AreZeros, Target, Forging, Need, putting, ended, Progress, Rest, StandsFor, IsFront, put_of, asked, Admits, advanced, steps_left, Begins}

rest_at : (t : Target) (new wanted : Need) → new ≡ wanted → (tail : List Step) (ending : Answer) → Rest t new tail ending → Rest t wanted tail ending
rest_at t new wanted e tail ending r = subst (λ (q : Need). Rest t q tail ending) e r

-- what the puts that are left may still make
more_puts : (t : Target) (stripe : Stripe) (more : List Stripe) (answer : Answer) (reply : Reply) (tail : List Step) (ending : Answer) → Rest t (advanced (putting stripe more answer) reply) tail ending
    → PutsForged t.nodes t.name more (forged_so_far answer reply) tail ending
more_puts t stripe [] answer reply tail ending r = r
more_puts t stripe (following ∷ more) answer reply tail ending r = r

puts_on : (t : Target) (stripe : Stripe) (more : List Stripe) (answer : Answer) (reply : Reply) (steps : List Step) → Admits (putting stripe more answer) reply
    → Adds (asked t (putting stripe more answer)) reply steps → (tail : List Step) (ending : Answer) → Rest t (advanced (putting stripe more answer) reply) tail ending
    → Rest t (putting stripe more answer) (steps ++ tail) ending
puts_on t stripe more answer (by_node nodes.kept) steps a adds tail ending r =
    subst (λ l. Rest t (putting stripe more answer) (l ++ tail) ending) (sym adds)
    (by_node nodes.kept, step (put_of t stripe) (by_node nodes.kept), tail, refl, (refl, tt), more_puts t stripe more answer (by_node nodes.kept) tail ending r)
puts_on t stripe more answer (by_node nodes.memory) steps a adds tail ending r =
    subst (λ l. Rest t (putting stripe more answer) (l ++ tail) ending) (sym adds)
    (by_node nodes.memory, step (put_of t stripe) (by_node nodes.memory), tail, refl, (refl, tt), more_puts t stripe more answer (by_node nodes.memory) tail ending r)
puts_on t stripe more answer reply steps a adds tail ending r = absurd a

goes_on : (t : Target) (need : Need) (reply : Reply) (more : List Step) → Admits need reply → Adds (asked t need) reply more → (tail : List Step) (ending : Answer)
    → Rest t (advanced need reply) tail ending → Rest t need (more ++ tail) ending
goes_on t (putting stripe more answer) reply steps a adds tail ending r = puts_on t stripe more answer reply steps a adds tail ending r
goes_on t (ended answer) reply steps a adds tail ending r = absurd a

pub takes_more : (old new : Progress) (reply : Reply) (steps more : List Step) → new.target ≡ old.target → Admits old.need reply → new.need ≡ advanced old.need reply
    → Adds (asked old.target old.need) reply more → StandsFor old steps → StandsFor new (steps ++ more)
takes_more old new reply steps more same a next adds stands = λ tail ending r.
    subst (λ (q : Target). Forging q ((steps ++ more) ++ tail) ending) (sym same)
    (subst (λ (l : List Step). Forging old.target l ending) (sym (append_assoc steps more tail))
    (stands (more ++ tail) ending
    (goes_on old.target old.need reply more a adds tail ending
    (rest_at old.target new.need (advanced old.need reply) next tail ending (subst (λ (q : Target). Rest q new.need tail ending) same r)))))

-- ---- from each need the walk can be ended

abbrev pub CanEnd : Target → Need → Type 0
CanEnd t need = (tail : List Step) × (ending : Answer) × Rest t need tail ending

puts_end : (t : Target) (stripes : List Stripe) (answer : Answer) → (tail : List Step) × (ending : Answer) × PutsForged t.nodes t.name stripes answer tail ending
puts_end t [] answer = ([], answer, (refl, refl))
puts_end t (s ∷ more) answer =
    let c = puts_end t more (forged_so_far answer (by_node nodes.kept)) in
    (step (put_of t s) (by_node nodes.kept) ∷ c.0, c.1, (by_node nodes.kept, step (put_of t s) (by_node nodes.kept), c.0, refl, (refl, tt), c.2))

can_end : (t : Target) (need : Need) → CanEnd t need
can_end t (putting stripe more answer) = puts_end t (stripe ∷ more) answer
can_end t (ended answer) = ([], answer, (refl, refl))

pub is_front : (p : Progress) (steps more : List Step) (reply : Reply) → Admits p.need reply → Adds (asked p.target p.need) reply more → StandsFor p steps
    → IsFront p.target (steps ++ more)
is_front p steps more reply a adds stands =
    let c = can_end p.target (advanced p.need reply) in (
      c.0,
      c.1,
      subst (λ (l : List Step). Forging p.target l c.1) (sym (append_assoc steps more c.0))
          (stands (more ++ c.0) c.1 (goes_on p.target p.need reply more a adds c.0 c.1 c.2)),
    )

ends_at : (t : Target) (need : Need) (answer : Answer) → asked t need ≡ an_end answer → need ≡ ended answer
ends_at t (ended last) answer e = cc
ends_at t (putting stripe more last) answer e = cc

pub is_walk : (p : Progress) (steps : List Step) (answer : Answer) → asked p.target p.need ≡ an_end answer → StandsFor p steps → Forging p.target steps answer
is_walk p steps answer e stands =
    made_walk (Forging p.target) (Rest p.target) p.need answer (subst (λ (q : Need). Rest p.target q [] answer) (sym (ends_at p.target p.need answer e)) (refl, refl)) steps stands

-- a new forging stands for no step
pub starts : (t : Target) (need : Need) → Begins t need → Stands (Forging t) (Rest t) need []
starts t need (inl b) = λ tail ending r. inl (b.0 ∷ b.1, b.2, rest_at t need (putting b.0 b.1 Forged) b.3 tail ending r)
starts t need (inr e) = λ tail ending r. inr (rest_at t need (ended Memory) e tail ending r)

pub nears : (need : Need) (reply : Reply) → Admits need reply → steps_left (advanced need reply) + 1 ≤ steps_left need
nears (putting stripe [] answer) reply a = omega arith
nears (putting stripe (following ∷ more) answer) reply a = omega arith
nears (ended answer) reply a = absurd a

-- ---- lists of zeros of one length are one list

pub same_zeros : (xs ys : List ℕ) → AllByRecursion (λ (b : ℕ). b ≡ 0) xs → AllByRecursion (λ (b : ℕ). b ≡ 0) ys → length xs ≡ length ys → xs ≡ ys
same_zeros [] [] h k e = refl
same_zeros [] (y ∷ ys) h k e = absurd (omega arith)
same_zeros (x ∷ xs) [] h k e = absurd (omega arith)
same_zeros (x ∷ xs) (y ∷ ys) h k e = λ i. (h.0 ∙ sym k.0) i ∷ same_zeros xs ys h.1 k.1 (omega arith) i

-- a stripe of one chunk of zeros is that of each
pub forged_by : (zeros : List ℕ) (name : Name) (index : ℕ) (s made : Stripe) → AreZeros zeros → IsGood made made.name index → IsStripe 4 zeros index made.bytes
    → s ≡ record made { name = name } → IsForged name index s
forged_by zeros name index s made z good stripe e = subst (IsForged name index) (sym e) (record {
  its_name = refl;
  its_index = good.its_index;
  long = good.long;
  its_digest = good.its_digest;
  bytes = λ other long all. subst (λ (l : List ℕ). IsStripe 4 l index made.bytes) (same_zeros zeros other z.zeros all (z.long ∙ sym long)) stripe;
})

pub zeros_all : (n : ℕ) → AllByRecursion (λ (b : ℕ). b ≡ 0) (replicate n 0)
zeros_all zero = tt
zeros_all (suc n) = (refl, zeros_all n)
