-- The number and the name of each operation. The numbers are 1, 2, 3 and so on, in the order of `Operation` in the code.
use Rattle.std.specs.Prelude.{ℕ, List, codes}
use Rattle.dwarf_value.specs.Values.{Abs, Neg, Not, Plus, Minus, Mul, Div, Mod, And, Or, Xor, Shl, Shr, Shra, Eq, Ne, Lt, Le, Gt, Ge}
use Rattle.dwarf_meaning.specs.Operations.{Operation}
use Rattle.dwarf_meaning.specs.Operations as op

-- the number and the name of an operation
abbrev pub number_and_name : Operation → ℕ × List ℕ
number_and_name (op.Deref base_type size space) = (1, codes "Deref")
number_and_name op.Drop = (2, codes "Drop")
number_and_name (op.Pick index) = (3, codes "Pick")
number_and_name op.Swap = (4, codes "Swap")
number_and_name op.Rot = (5, codes "Rot")
number_and_name (op.Unary Abs) = (6, codes "Abs")
number_and_name (op.Binary And) = (7, codes "And")
number_and_name (op.Binary Div) = (8, codes "Div")
number_and_name (op.Binary Minus) = (9, codes "Minus")
number_and_name (op.Binary Mod) = (10, codes "Mod")
number_and_name (op.Binary Mul) = (11, codes "Mul")
number_and_name (op.Unary Neg) = (12, codes "Neg")
number_and_name (op.Unary Not) = (13, codes "Not")
number_and_name (op.Binary Or) = (14, codes "Or")
number_and_name (op.Binary Plus) = (15, codes "Plus")
number_and_name (op.PlusConstant value) = (16, codes "PlusConstant")
number_and_name (op.Binary Shl) = (17, codes "Shl")
number_and_name (op.Binary Shr) = (18, codes "Shr")
number_and_name (op.Binary Shra) = (19, codes "Shra")
number_and_name (op.Binary Xor) = (20, codes "Xor")
number_and_name (op.Bra target) = (21, codes "Bra")
number_and_name (op.Binary Eq) = (22, codes "Eq")
number_and_name (op.Binary Ge) = (23, codes "Ge")
number_and_name (op.Binary Gt) = (24, codes "Gt")
number_and_name (op.Binary Le) = (25, codes "Le")
number_and_name (op.Binary Lt) = (26, codes "Lt")
number_and_name (op.Binary Ne) = (27, codes "Ne")
number_and_name (op.Skip target) = (28, codes "Skip")
number_and_name (op.UnsignedConstant value) = (29, codes "UnsignedConstant")
number_and_name (op.SignedConstant value) = (30, codes "SignedConstant")
number_and_name (op.Register register) = (31, codes "Register")
number_and_name (op.RegisterOffset register offset base_type) = (32, codes "RegisterOffset")
number_and_name (op.FrameOffset offset) = (33, codes "FrameOffset")
number_and_name op.Nop = (34, codes "Nop")
number_and_name op.PushObjectAddress = (35, codes "PushObjectAddress")
number_and_name (op.Call offset) = (36, codes "Call")
number_and_name op.TLS = (37, codes "TLS")
number_and_name op.CallFrameCFA = (38, codes "CallFrameCFA")
number_and_name (op.Piece size_in_bits bit_offset) = (39, codes "Piece")
number_and_name (op.ImplicitValue bytes) = (40, codes "ImplicitValue")
number_and_name op.StackValue = (41, codes "StackValue")
number_and_name (op.ImplicitPointer value byte_offset) = (42, codes "ImplicitPointer")
number_and_name (op.EntryValue expression) = (43, codes "EntryValue")
number_and_name (op.ParameterRef offset) = (44, codes "ParameterRef")
number_and_name (op.Address address) = (45, codes "Address")
number_and_name (op.AddressIndex index) = (46, codes "AddressIndex")
number_and_name (op.ConstantIndex index) = (47, codes "ConstantIndex")
number_and_name (op.TypedLiteral base_type value) = (48, codes "TypedLiteral")
number_and_name (op.Convert base_type) = (49, codes "Convert")
number_and_name (op.Reinterpret base_type) = (50, codes "Reinterpret")
number_and_name op.Uninitialized = (51, codes "Uninitialized")
number_and_name (op.WasmLocal index) = (52, codes "WasmLocal")
number_and_name (op.WasmGlobal index) = (53, codes "WasmGlobal")
number_and_name (op.WasmStack index) = (54, codes "WasmStack")
number_and_name (op.VariableValue offset) = (55, codes "VariableValue")

-- the number of an operation
abbrev pub number_of : Operation → ℕ
number_of operation = (number_and_name operation).0

-- the name of an operation
abbrev pub name_of : Operation → List ℕ
name_of operation = (number_and_name operation).1
