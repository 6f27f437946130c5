pub mod NoRequest
