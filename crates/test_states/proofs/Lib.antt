mod Computing
mod Within
