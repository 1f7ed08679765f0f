use Rattle.std.proofs.lemmas.Result.{err_from_is_err_and}
use Rattle.std.proofs.Common.{refl}
use Rattle.cx_codec.proofs.Composing.{fails, goes, gives}
use Rattle.cx_live.specs.Reading.{image_at}
use Rattle.cx_live.proofs.Sizes.{pages_are}
use Rattle.cx_live.proofs.reading.image.Goals as goal

pub returns-in_err-version-clause-reads : goal.returns-in_err-version-clause-reads
unfolding image_at
returns-in_err-version-clause-reads g c told =
    let p = err_from_is_err_and c.from_residual.result c.from_residual.ensures.1 in
    rw (p.1, p.2) (fails {reader = image_at} _ (λ p. refl) refl (c.in_err-version.ensures.reads told))

pub returns-in_err-split-clause-reads : goal.returns-in_err-split-clause-reads
unfolding image_at
returns-in_err-split-clause-reads g c told =
    let p = err_from_is_err_and c.from_residual-in_err-split.result c.from_residual-in_err-split.ensures.1 in
    let version = c.in_ok-version.ensures.reads told in
    rw (p.1, p.2) (goes {reader = image_at} _ (λ p. refl) version
    (fails _ (λ p. refl) refl (c.in_err-split.ensures.reads version.follows.told)))

pub returns-in_err-pages-clause-reads : goal.returns-in_err-pages-clause-reads
unfolding image_at
returns-in_err-pages-clause-reads g c told =
    let p = err_from_is_err_and c.from_residual-in_err-pages.result c.from_residual-in_err-pages.ensures.1 in
    let version = c.in_ok-version.ensures.reads told in
    let split = c.in_ok-split.ensures.reads version.follows.told in
    rw (p.1, p.2) (goes {reader = image_at} _ (λ p. refl) version
    (goes _ (λ p. refl) split
    (fails _ (λ p. refl) refl (c.in_err-pages.ensures.reads split.follows.told))))

pub returns-in_err-machine-clause-reads : goal.returns-in_err-machine-clause-reads
unfolding image_at
returns-in_err-machine-clause-reads g c told =
    let p = err_from_is_err_and c.from_residual-in_err-machine.result c.from_residual-in_err-machine.ensures.1 in
    let version = c.in_ok-version.ensures.reads told in
    let split = c.in_ok-split.ensures.reads version.follows.told in
    let pages = c.in_ok-pages.ensures.reads split.follows.told in
    rw (p.1, p.2) (goes {reader = image_at} _ (λ p. refl) version
    (goes _ (λ p. refl) split (goes _ (λ p. refl) pages
    (fails _ (λ p. refl) refl (c.in_err-machine.ensures.reads pages.follows.told)))))

pub returns-in_err-disk-clause-reads : goal.returns-in_err-disk-clause-reads
unfolding image_at
returns-in_err-disk-clause-reads g c told =
    let p = err_from_is_err_and c.from_residual-in_err-disk.result c.from_residual-in_err-disk.ensures.1 in
    let version = c.in_ok-version.ensures.reads told in
    let split = c.in_ok-split.ensures.reads version.follows.told in
    let pages = c.in_ok-pages.ensures.reads split.follows.told in
    let machine = c.in_ok-machine.ensures.reads pages.follows.told in
    rw (p.1, p.2) (goes {reader = image_at} _ (λ p. refl) version
    (goes _ (λ p. refl) split (goes _ (λ p. refl) pages (goes _ (λ p. refl) machine
    (fails _ (λ p. refl) refl (c.in_err-disk.ensures.reads machine.follows.told))))))

pub returns-in_err-console-clause-reads : goal.returns-in_err-console-clause-reads
unfolding image_at
returns-in_err-console-clause-reads g c told =
    let p = err_from_is_err_and c.from_residual-in_err-console.result c.from_residual-in_err-console.ensures.1 in
    let version = c.in_ok-version.ensures.reads told in
    let split = c.in_ok-split.ensures.reads version.follows.told in
    let pages = c.in_ok-pages.ensures.reads split.follows.told in
    let machine = c.in_ok-machine.ensures.reads pages.follows.told in
    let disk = c.in_ok-disk.ensures.reads machine.follows.told in
    rw (p.1, p.2) (goes {reader = image_at} _ (λ p. refl) version
    (goes _ (λ p. refl) split (goes _ (λ p. refl) pages (goes _ (λ p. refl) machine (goes _ (λ p. refl) disk
    (fails _ (λ p. refl) refl (c.in_err-console.ensures.reads disk.follows.told)))))))

pub returns-clause-reads : goal.returns-clause-reads
unfolding image_at
returns-clause-reads g c told =
    let version = c.in_ok-version.ensures.reads told in
    let split = c.in_ok-split.ensures.reads version.follows.told in
    let pages = c.in_ok-pages.ensures.reads split.follows.told in
    let machine = c.in_ok-machine.ensures.reads pages.follows.told in
    let disk = c.in_ok-disk.ensures.reads machine.follows.told in
    let console = c.in_ok-console.ensures.reads disk.follows.told in
    goes {reader = image_at} _ (λ p. refl) version
    (goes _ (λ p. refl) split (goes _ (λ p. refl) pages (goes _ (λ p. refl) machine (goes _ (λ p. refl) disk
    (goes _ (λ p. refl) console (gives console.follows.told (λ p. rw (pages_are c.in_ok-machine.machine.memory
    c.in_ok-pages.field-0 c.in_ok-machine.ensures.size) refl)))))))
