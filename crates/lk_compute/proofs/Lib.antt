mod Branching
mod FewHeaders
mod Oversized
mod PlacingRefused
mod Reaching
mod Redirecting
mod Valuing
