pub mod WriteLaw
