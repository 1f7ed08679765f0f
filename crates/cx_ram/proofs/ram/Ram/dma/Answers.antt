-- Two parts written one after the other are the whole.
use Rattle.std.proofs.Common.{◌≡◌, ◌<◌, ◌+◌, ◌-◌, ◌%◌, ◌++◌, ◌∙◌, ℕ, List, length, take, drop, ap, arith, length-drop}
use Rattle.std.proofs.lemmas.List.{length-take-le, take_all, take-append-drop}
use Rattle.cx_ram.specs.LittleEndian.{written}
use Rattle.cx_ram.specs.PhysicalMemory.{page_at}
use Rattle.cx_ram.proofs.LoadsAndWrites.{written-parts}
use Rattle.cx_ram.proofs.ram.Ram.dma.Goals as goal

pub returns-else-bytes-here-clause-memory : goal.returns-else-bytes-here-clause-memory
returns-else-bytes-here-clause-memory c =
    let here : ℕ = 4096 - c.args.pa % 4096 in
    let one : List ℕ = take here c.args.bytes.now in
    let two : List ℕ = take (length c.args.bytes.now - here) (drop here c.args.bytes.now) in
    let rest : two ≡ drop here c.args.bytes.now = take_all (length c.args.bytes.now - here)
    (drop here c.args.bytes.now) (omega (arith, length-drop here c.args.bytes.now)) in
    let size : length one ≡ here = length-take-le here c.args.bytes.now (omega (arith, c.if-bytes-here.false)) in
    let at : c.args.pa + here - 2147483648 ≡ c.args.pa - 2147483648 + length one =
    omega (arith, c.requires.ram.low) in
    c.write-else-bytes-here-2.ensures.memory
    ∙ ap (λ (l : List ℕ). written l (c.args.pa + here - 2147483648) two) c.write-else-bytes-here.ensures.memory
    ∙ ap (λ (i : ℕ). written (written c.args.self.now.memory (c.args.pa - 2147483648) one) i two) at
    ∙ written-parts c.args.self.now.memory (c.args.pa - 2147483648) one two
    (omega (arith, c.requires.ram.high, c.requires.ram.low, c.if-bytes-here.false))
    ∙ ap (λ (l : List ℕ). written c.args.self.now.memory (c.args.pa - 2147483648) l)
    (ap (λ (l : List ℕ). one ++ l) rest ∙ take-append-drop here c.args.bytes.now)

pub returns-else-bytes-here-clause-others : goal.returns-else-bytes-here-clause-others
returns-else-bytes-here-clause-others c = λ page apart.
    let here : ℕ = 4096 - c.args.pa % 4096 in
    let low : here < length c.args.bytes.now = omega (arith, c.if-bytes-here.false) in
    let at : page_at c.args.pa ≡ page_at (c.args.pa + 0) = omega arith in
    let first = c.write-else-bytes-here.ensures.own.1 page (λ e. apart 0 (omega arith) (e ∙ at)) in
    let second = c.write-else-bytes-here-2.ensures.own.1 page (λ e. apart here low e) in
    (λ now. first.0 (second.0 now), λ was. second.1 (first.1 was))
