use Rattle.std.specs.Prelude.{◌<◌, ◌≡◌, take, get_or, length, IsTrue, ◌↔◌, EachIndex}
use Rattle.std.proofs.Common.{rules, arith, ltb-true, lt-ltb, get_or-take, length-take-le}
use Rattle.law.specs.Truth.{alike}
use Rattle.law.proofs.Every.{every_of, every_at}
use Rattle.step_entries.specs.Entries.{below}
use Rattle.step_entries.proofs.entries.Entries.all_below.Goals as goal

pub returns : goal.returns
unfolding below
returns c =
    let count = c.args.self.now.count in
    let l = c.args.self.now.particles.now in
    let front = take count l in
    let long : length front ≡ count = length-take-le count l c.requires in
    let each : IsTrue c.all.result ↔ EachIndex front (λ k. get_or front k 0 < c.args.n) = search rules in
    alike _ _ (λ t. every_of _ 0 count (λ k a b. lt-ltb _ _ (rw (get_or-take count l k 0 b) at (each.0 t k (omega arith)))))
    (λ t. each.1 (λ k b. let h : k < count = omega arith in rw (get_or-take count l k 0 h) (ltb-true _ _ (every_at _ 0 count t k (omega arith) h))))
