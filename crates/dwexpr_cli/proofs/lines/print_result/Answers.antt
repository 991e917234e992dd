use Rattle.dwexpr_cli.proofs.lines.print_result.Goals as goal

pub returns-in-RequiresWasmLocal : goal.returns-in-RequiresWasmLocal
returns-in-RequiresWasmLocal g c =
    rw (c.in-RequiresWasmLocal.is, ← c.from-in-RequiresWasmLocal.ensures) c.put_line-in-RequiresWasmLocal.ensures

pub returns-in-RequiresWasmGlobal : goal.returns-in-RequiresWasmGlobal
returns-in-RequiresWasmGlobal g c =
    rw (c.in-RequiresWasmGlobal.is, ← c.from-in-RequiresWasmGlobal.ensures) c.put_line-in-RequiresWasmGlobal.ensures

pub returns-in-RequiresWasmStack : goal.returns-in-RequiresWasmStack
returns-in-RequiresWasmStack g c =
    rw (c.in-RequiresWasmStack.is, ← c.from-in-RequiresWasmStack.ensures) c.put_line-in-RequiresWasmStack.ensures

pub returns-in-RequiresRelocatedAddress : goal.returns-in-RequiresRelocatedAddress
returns-in-RequiresRelocatedAddress g c =
    rw c.in-RequiresRelocatedAddress.is c.put_line-in-RequiresRelocatedAddress.ensures
